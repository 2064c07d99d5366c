mod Drops
