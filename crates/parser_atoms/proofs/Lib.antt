mod Additions
