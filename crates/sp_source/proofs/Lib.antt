mod Exclude
