mod Beside
mod Owing
