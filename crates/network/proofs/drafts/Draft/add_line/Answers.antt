use Rattle.std.proofs.Common.{◌≡◌, ◌-◌, true, Some, sym, ◌∙◌, subst}
use Rattle.std.proofs.lemmas.List.{length-set}
use Rattle.figures.specs.Racks.{rack_kept}
use Rattle.records.specs.States.{line_set}
use Rattle.network.proofs.NewLines.{line_set_kept}
use Rattle.network.proofs.drafts.Draft.add_line.Goals as goal

pub invariant_of-self : goal.invariant_of-self
invariant_of-self c =
    let draft = c.args.self.now in record {
      kept = subst (λ n. rack_kept (line_set draft.rack n c.args.line) ≡ true) (sym c.from.ensures)
          (line_set_kept draft.rack c.args.number c.args.line draft.kept (sym c.if-not-has_fields_within.ensures));
      sixteen = length-set draft.rack.lines (c.from.result - 1) (Some c.args.line) ∙ draft.sixteen;
    }
