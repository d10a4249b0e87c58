pub mod Send
