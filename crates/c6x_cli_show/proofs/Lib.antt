mod TableLines
mod Delivered
