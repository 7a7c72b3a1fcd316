pub mod Characters
