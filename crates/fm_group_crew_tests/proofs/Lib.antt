mod Known
mod Pages
