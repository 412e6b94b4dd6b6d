-- What `Display` writes of a call, and of what it tells.
use Rattle.std.specs.Prelude.{ℕ, List, ◌++◌, codes, decimal}
use Rattle.figures.specs.Words.{figures_text}
use Rattle.records.specs.Words.{line_text}
use Rattle.network.specs.declared.calls.Call.{Call}
use Rattle.network.specs.declared.calls.Call.TheVariants as call
use Rattle.network.specs.declared.calls.Told.{Told}
use Rattle.network.specs.declared.calls.Told.TheVariants as told

abbrev pub call_text : {K : Type 0} → Call K → List ℕ
call_text (call.Request s) = codes "request stream " ++ decimal s.number ++ codes " deadline " ++ decimal s.deadline
call_text (call.Withdraw n) = codes "withdraw stream " ++ decimal n
call_text (call.SetPlaces l p) = codes "places of line " ++ decimal l ++ codes " to " ++ decimal p
call_text (call.OfStream n) = codes "stream " ++ decimal n
call_text (call.OfLine l) = codes "line " ++ decimal l

abbrev pub told_text : Told → List ℕ
told_text told.Done = codes "done"
told_text (told.Stream figures) = figures_text figures
told_text (told.Line figures) = line_text figures
