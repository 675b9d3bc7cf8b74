pub mod Relabeled
