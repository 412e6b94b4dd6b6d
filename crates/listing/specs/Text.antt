-- The text of a line and of a listing, as the codes of its characters.
use Rattle.std.specs.Prelude.{ℕ, List, ◌++◌, codes, decimal}
use Rattle.std.specs.List.{flat_map}
use Rattle.listing.specs.declared.entries.Entry.{Entry}
use Rattle.listing.specs.declared.entries.Entry.TheVariants.{Done, Refused, Stopped, Stream, Line}

abbrev pub line_text : Entry → List ℕ
line_text (Done at) = codes "at " ++ decimal at ++ codes " ok\n"
line_text (Refused number party at) = codes "at " ++ decimal at ++ codes " no " ++ decimal number ++ codes " " ++ decimal party ++ codes "\n"
line_text (Stopped number at) = codes "stop " ++ decimal at ++ codes " " ++ decimal number ++ codes "\n"
line_text (Stream number q1 q2 total) =
    codes "stream " ++ decimal number ++ codes " q1 " ++ decimal q1 ++ codes " q2 " ++ decimal q2 ++ codes " total " ++ decimal total ++ codes "\n"
line_text (Line number need places) = codes "line " ++ decimal number ++ codes " need " ++ decimal need ++ codes " of " ++ decimal places ++ codes "\n"

abbrev pub listing_text : List Entry → List ℕ
listing_text entries = flat_map line_text entries
