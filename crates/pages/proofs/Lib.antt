-- What is proved of the definitions of specs/.
pub mod PagesExamples
pub mod Vulkan
