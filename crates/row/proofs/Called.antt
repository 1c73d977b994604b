-- Every call over a row ends as the call on the row's table does.
use Rattle.std.proofs.Common.{◌≡◌, sym, ap, ◌∙◌, subst, List, length}
use Rattle.octets.specs.Text.{Text}
use Rattle.partner.specs.declared.Entry.{Entry}
use Rattle.calls.specs.Outcome.{Outcome, Turn}
use Rattle.outcome.specs.declared.Report.{Report}
use Rattle.outcome.specs.Report.{replied, report}
use Rattle.sight.specs.declared.aims.Act.{Act}
use Rattle.sight.specs.declared.aims.Aim.{Aim}
use Rattle.sight.specs.declared.Sight.{Sight}
use Rattle.sight.specs.Aim.{aim_of}
use Rattle.sight.specs.Asked.{call_of}
use Rattle.sight.specs.Sight.{survey, put_in}
use Rattle.sight.proofs.Sees.{Sees, sees_asked}
use Rattle.turn.specs.Way.{take}
use Rattle.turn.proofs.Ways.{way_ends}
use Rattle.row.specs.Calls.{Called}

module _ (own : Text) (slots : List Entry) (q : Act) (who text : Text) (aim : Aim) (ea : aim ≡ aim_of q own who text)
    (seen : Sight) (es : seen ≡ survey aim slots) where
  sees : Sees own slots (aim_of q own who text) seen
  sees =
      subst (Sees own slots (aim_of q own who text)) (sym (es ∙ ap (λ (a : Aim). survey a slots) ea))
      (sees_asked own slots q who text)

  -- what was turned, put back
  pub call_ends : (reply : Text) (e : Entry) → e ≡ (take own aim seen q text (length reply)).entry
      → (r : Report) → r ≡ report (take own aim seen q text (length reply)).outcome
      → (zs : List Entry) → zs ≡ put_in seen.slot e slots
      → (ws : Text) → ws ≡ replied (take own aim seen q text (length reply)).outcome reply
      → Called own slots (call_of q (length reply) who text) reply r zs ws
  call_ends reply e ee r er zs ez ws ew =
      let z = way_ends own slots q who text (length reply) seen sees in
      let k : take own aim seen q text (length reply) ≡ take own (aim_of q own who text) seen q text (length reply) =
      ap (λ (a : Aim). take own a seen q text (length reply)) ea in
      record {
        given = er ∙ ap (λ (x : Turn). report x.outcome) k ∙ ap report z.0;
        row = ez ∙ ap (λ (x : Entry). put_in seen.slot x slots) (ee ∙ ap (λ (x : Turn). x.entry) k) ∙ z.1;
        reply = ew ∙ ap (λ (x : Turn). replied x.outcome reply) k ∙ ap (λ (o : Outcome). replied o reply) z.0;
      }
