pub mod NeverWell
