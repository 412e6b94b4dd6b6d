-- One record at a stage: from what is read and done to what the definitions say of it.
use Rattle.std.proofs.Common.{◌≡◌, ℕ, Bool, true, false, List, Ok, Err, Result, sym, refl, ap, ◌∙◌, subst, MatchResult}
use Rattle.std.proofs.lemmas.Bool.{cond-true, cond-false}
use Rattle.figures.specs.Racks.{hub_kept}
use Rattle.admission.specs.declared.faults.TableFault.{TableFault}
use Rattle.admission.specs.declared.faults.TableFault.TheVariants.{OutsideLimits}
use Rattle.listing.specs.declared.entries.Entry.{Entry}
use Rattle.network.specs.declared.drafts.Draft.{Draft}
use Rattle.records.specs.States.{bare_rack}
use Rattle.wire.specs.declared.faults.FileFault.{FileFault}
use Rattle.wire.specs.declared.faults.FileFault.TheVariants.{Table}
use Rattle.wire.specs.declared.records.Record.{Record}
use Rattle.wire.specs.declared.records.Record.TheVariants as said
use Rattle.wire.specs.Faults.{with_place}
use Rattle.planfile.specs.declared.phases.Phase.TheVariants.{Opening}
use Rattle.planfile.specs.Kinds.{PlanKind}
use Rattle.planfile.specs.Lines.{of_input}
use Rattle.planfile.specs.Points.{Opens, Took, onward, with_answer}
use Rattle.planfile.specs.Stages.{Did, Stage, Taken, Valued, phase_of, read_in}
use Rattle.planfile.proofs.Records.{misread}

module _ (stage : Stage) (at : ℕ) (bytes : List ℕ) where
  taken : (room : ℕ) (what : Record PlanKind) (v : Result (Unit {0}) TableFault) (next : Stage)
      → read_in (phase_of stage) at bytes ≡ Ok what → Did room stage what v next → Taken room stage at bytes (with_place at v) next
  taken room what v next e did = subst (λ x. Valued room stage at x (with_place at v) next) (sym e) (v, did, refl)

  untaken : (room : ℕ) (fault : FileFault) → read_in (phase_of stage) at bytes ≡ Err fault → Taken room stage at bytes (Err fault) stage
  untaken room fault e = subst (λ x. Valued room stage at x (Err fault) stage) (sym e) (refl, refl)

  -- a record that is read, carried out and noted
  pub took : (what : Record PlanKind) (v : Result (Unit {0}) TableFault) (next : Stage) (lines lines' : List Entry) (r : Result (Unit {0}) FileFault)
      → read_in (phase_of stage) at bytes ≡ Ok what → ((room : ℕ) → Did room stage what v next) → r ≡ onward (with_place at v)
      → lines' ≡ with_answer lines at (with_place at v) → Took stage lines at bytes r next lines'
  took what (Ok tt) next lines lines' r e did told noted =
      subst (λ x. Took stage lines at bytes x next lines') (sym told) (λ room. (Ok tt, taken room what (Ok tt) next e (did room), refl, noted))
  took what (Err fault) next lines lines' r e did told noted = go (of_input (Table at fault)) refl
    where
      go : (b : Bool) → of_input (Table at fault) ≡ b → Took stage lines at bytes r next lines'
      go true input =
          subst (λ x. Took stage lines at bytes x next lines') (sym (told ∙ cond-true (of_input (Table at fault)) _ _ input)) (
            (λ room. (next, taken room what (Err fault) next e (did room))),
            input,
            refl,
            noted ∙ cond-true (of_input (Table at fault)) _ _ input,
          )
      go false state =
          let on = cond-false (of_input (Table at fault)) _ _ state in
          subst (λ x. Took stage lines at bytes x next lines') (sym (told ∙ on))
          (λ room. (Err (Table at fault), taken room what (Err fault) next e (did room), cond-false (of_input (Table at fault)) _ _ state, noted))

  -- a record that cannot be read
  pub misread_took : (fault : FileFault) (next : Stage) (lines : List Entry) → read_in (phase_of stage) at bytes ≡ Err fault
      → Took stage lines at bytes (Err fault) next lines
  misread_took fault next lines e =
      let m = misread (phase_of stage) at bytes fault e in
      ((λ room. (stage, untaken room fault e)), m.0, m.1, refl)

-- the first record
module _ (at : ℕ) (bytes : List ℕ) where
  abbrev New : ℕ → ℕ → Result Draft TableFault → Type 0
  New least most d =
      MatchResult d (λ x. (x.rack ≡ bare_rack least most) × (hub_kept (record { least = least; most = most }) ≡ true))
      (λ f. (f ≡ OutsideLimits) × (hub_kept (record { least = least; most = most }) ≡ false))

  pub opens : (least most : ℕ) → read_in Opening at bytes ≡ Ok (said.Hub least most) → (d : Result Draft TableFault) → New least most d
      → (r : Result Draft FileFault) → r ≡ with_place at d
      → MatchResult r (λ draft. Opens at bytes (Ok draft.rack)) (λ fault. Opens at bytes (Err fault))
  opens least most e d new r is =
      subst (λ x. MatchResult x (λ draft. Opens at bytes (Ok draft.rack)) (λ fault. Opens at bytes (Err fault))) (sym is) (go d new)
    where
      go : (d : Result Draft TableFault) → New least most d
          → MatchResult (with_place at d) (λ draft. Opens at bytes (Ok draft.rack)) (λ fault. Opens at bytes (Err fault))
      go (Ok draft) (rack, kept) = λ room.
          taken Stage.opened at bytes room (said.Hub least most) (Ok tt) (Stage.drafted draft.rack) e
          (sym (cond-true (hub_kept (record { least = least; most = most })) _ _ kept), ap Stage.drafted rack)
      go (Err fault) (same, kept) = (
        (λ room. (
          Stage.opened,
          taken Stage.opened at bytes room (said.Hub least most) (Err fault) Stage.opened e
              (ap Err same ∙ sym (cond-false (hub_kept (record { least = least; most = most })) _ _ kept), refl),
        )),
        ap (λ f. of_input (Table at f)) same,
        refl,
      )
