mod Saids
