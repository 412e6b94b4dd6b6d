-- What every state of a network keeps.
use Rattle.std.specs.Prelude.{◌≡◌, true, length}
use Rattle.figures.specs.Tables.{table_kept}
use Rattle.records.specs.Lists.{numbers_differ}
use Rattle.records.specs.States.{State, all_within}

pub record Sound {K : Type 0} (st : State K) : Type 0 where
  pub kept : table_kept st.rack st.streams ≡ true
  pub differ : numbers_differ st.streams ≡ true
  pub sixteen : length st.rack.lines ≡ 16
  pub fields : all_within st.streams ≡ true
