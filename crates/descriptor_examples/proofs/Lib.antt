mod OnePools
mod Used
