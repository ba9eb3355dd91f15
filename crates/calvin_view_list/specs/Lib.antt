pub mod ViewLists
