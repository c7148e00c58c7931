-- The ends of intervals, and the ends next to a number. Cited by contracts.
use Rattle.std.specs.Prelude.{ℕ, if◌then◌else◌, nat_le, List, [], ◌∷◌, ℤ, pos, negsuc, int_le}
use Rattle.bounds.specs.declared.ends.End.{End}
use Rattle.bounds.specs.declared.ends.End.TheVariants.{Least, Min32, Min16, Min8, MinusOne, Zero, One, Max8, MaxU8, Max16, MaxU16, Max32, MaxU32, Greatest}

-- the number of an end, counted from the least
abbrev pub index : End → ℕ
index Least = 0
index Min32 = 1
index Min16 = 2
index Min8 = 3
index MinusOne = 4
index Zero = 5
index One = 6
index Max8 = 7
index MaxU8 = 8
index Max16 = 9
index MaxU16 = 10
index Max32 = 11
index MaxU32 = 12
index Greatest = 13

-- the number that it is
abbrev pub end_value : End → ℤ
end_value Least = negsuc 9223372036854775807
end_value Min32 = negsuc 2147483647
end_value Min16 = negsuc 32767
end_value Min8 = negsuc 127
end_value MinusOne = negsuc 0
end_value Zero = pos 0
end_value One = pos 1
end_value Max8 = pos 127
end_value MaxU8 = pos 255
end_value Max16 = pos 32767
end_value MaxU16 = pos 65535
end_value Max32 = pos 2147483647
end_value MaxU32 = pos 4294967295
end_value Greatest = pos 9223372036854775807

-- all but the least, from the greatest on
abbrev pub descending : List End
descending =
    Greatest ∷ MaxU32 ∷ Max32 ∷ MaxU16 ∷ Max16 ∷ MaxU8 ∷ Max8 ∷ One ∷ Zero ∷ MinusOne ∷ Min8 ∷ Min16
    ∷ Min32 ∷ []

-- all but the greatest, from the least on
abbrev pub ascending : List End
ascending =
    Least ∷ Min32 ∷ Min16 ∷ Min8 ∷ MinusOne ∷ Zero ∷ One ∷ Max8 ∷ MaxU8 ∷ Max16 ∷ MaxU16 ∷ Max32
    ∷ MaxU32 ∷ []

-- the first of these ends that is at most z, or the least
unfoldable pub floor_in : List End → ℤ → End
floor_in [] z = Least
floor_in (e ∷ ends) z = if int_le (end_value e) z then e else floor_in ends z

-- the first of these ends that is at least z, or the greatest
unfoldable pub ceiling_in : List End → ℤ → End
ceiling_in [] z = Greatest
ceiling_in (e ∷ ends) z = if int_le z (end_value e) then e else ceiling_in ends z

-- the greatest end that is at most z
unfoldable pub floor : ℤ → End
floor z = floor_in descending z

-- the least end that is at least z
unfoldable pub ceiling : ℤ → End
ceiling z = ceiling_in ascending z

-- the lesser of two ends
abbrev pub lower : End → End → End
lower e f = if nat_le (index e) (index f) then e else f

-- the greater of two ends
abbrev pub upper : End → End → End
upper e f = if nat_le (index e) (index f) then f else e
