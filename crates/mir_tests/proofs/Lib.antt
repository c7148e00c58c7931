mod NewNames
