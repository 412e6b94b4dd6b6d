-- What `Display` writes of the figures of a line.
use Rattle.std.specs.Prelude.{ℕ, List, ◌++◌, codes, decimal}
use Rattle.records.specs.declared.lines.LineFigures.{LineFigures}

abbrev pub line_text : LineFigures → List ℕ
line_text figures = codes "need " ++ decimal figures.need ++ codes " of " ++ decimal figures.places
