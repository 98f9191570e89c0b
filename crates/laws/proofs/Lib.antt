-- What is proved of the definitions of specs/.
pub mod Nearest
pub mod Pages
pub mod Rounding
