-- The theorems of `pieces`, and the laws that the proofs of its functions share. Assumes nothing.

-- the block that the words are once a chunk is cut in two or two are joined
pub mod SplitWords
pub mod JoinedWords
-- for the functions
pub mod LinkStores
pub mod SplitStores
pub mod JoinStores
