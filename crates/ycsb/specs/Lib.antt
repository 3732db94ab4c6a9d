pub mod Ycsb
