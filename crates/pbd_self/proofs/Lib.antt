mod Copying
mod Finding
