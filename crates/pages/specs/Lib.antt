-- What the contracts of `pages` cite, and Vulkan's rule in its own words; proofs/ holds the page test against it.
pub mod Pages
pub mod Mask
pub mod Vulkan
