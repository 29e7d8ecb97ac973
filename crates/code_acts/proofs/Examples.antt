-- Lists of acts, their codes and what they do, computed.
mod Sums
