mod OnlyReader
