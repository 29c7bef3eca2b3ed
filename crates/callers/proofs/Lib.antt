mod Places
mod Rest
mod Noting
mod Sound
mod Counting
mod Judged
mod Exact
mod Alike
