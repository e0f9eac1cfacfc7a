pub mod Still
