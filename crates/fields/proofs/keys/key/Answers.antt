-- The key, and what its subfields give.
use Rattle.std.proofs.Common.{◌≡◌, sym, ap, ◌∙◌, ℕ, ◌+◌, arith, option_map, Option, Some, true, false, length}
use Rattle.octets.specs.Text.{Text, all, within, run_char, is_run}
use Rattle.octets.proofs.Comparing.{both}
use Rattle.csm.specs.Fields.{split}
use Rattle.csm.proofs.TextLaws.{within_true}
use Rattle.fields.specs.Steps.{placed, behind, Parted, subfields_seen}
use Rattle.fields.specs.declared.pieces.Piece.{Piece}
use Rattle.fields.proofs.PieceLaws.{parted_some}
use Rattle.fields.proofs.KeyLaws.{subs_none, key_split}
use Rattle.fields.proofs.keys.key.Goals.{in-Some+in_ok-behind_key-in-Some, in-None}
use Rattle.fields.proofs.keys.key.Goals as goal

abbrev told : Piece → ℕ × Text
told p = placed p.at p.w.now

pub returns-then-not-is_run : goal.returns-then-not-is_run
returns-then-not-is_run c =
    rw (key_split c.args.piece.at c.args.piece.w.now c.parted.result.0.w.now _ c.parted.ensures.text false (sym c.is_run.ensures ∙ c.if-not-is_run.true))

-- what stands behind sixteen digits and a dot
subs_behind : (at i : ℕ) (w d : Text) (r : Option Piece) (x : Piece) → r ≡ Some x
    → Parted (placed at w) (placed i d) (option_map told r) → is_run 70 16 16 d ≡ true
    → subfields_seen (at + 17) (behind (option_map told r)) ≡ subfields_seen x.at (split x.w.now)
subs_behind at i w d r x e h q =
    let b = parted_some told r x e h in
    let l = within_true 16 16 (length d) (both (all (run_char 70) d) (within 16 16 (length d)) q).1 in
    let n : at + 17 ≡ x.at = omega (arith, b.at) in
    ap (λ r. subfields_seen (at + 17) (behind (option_map told r))) e
    ∙ ap (λ (i : ℕ). subfields_seen i (split x.w.now)) n

pub returns-in_err-behind_key-in-Some : goal.returns-in_err-behind_key-in-Some
returns-in_err-behind_key-in-Some c =
    let q = sym c.is_run.ensures ∙ c.if-not-is_run.false in
    rw (
      c.from_residual.ensures,
      key_split c.args.piece.at c.args.piece.w.now c.parted.result.0.w.now _ c.parted.ensures.text true q,
      subs_behind _ _ _ _ _ c.in-Some.rest c.in-Some.is c.parted.ensures q,
      ← c.behind_key.ensures,
      c.in_err-behind_key-in-Some.was,
    )

pub returns : goal.returns
returns c =
    let at = c.args.piece.at in
    let w = c.args.piece.w.now in
    let d = c.parted.result.0.w.now in
    let q = sym c.is_run.ensures ∙ c.if-not-is_run.false in
    let s : subfields_seen (at + 17) (behind (option_map told c.parted.result.1)) ≡ Some c.match-rest.p = elim c.match-rest.branch [
      | in-Some+in_ok-behind_key-in-Some v ↦
          subs_behind _ _ _ _ _ v.in-Some.rest v.in-Some.is c.parted.ensures q ∙ sym v.behind_key.ensures
          ∙ v.in_ok-behind_key-in-Some.was ∙ ap Some (sym v.p-is)
      | in-None v ↦ ap (λ r. subfields_seen (at + 17) (behind (option_map told r))) v.in-None.is ∙ subs_none (at + 17) ∙ ap Some (sym v.p-is)
    ] in
    rw (key_split at w d _ c.parted.ensures.text true q, s) (λ x. Some (record {
      key = c.numeral.ensures x;
      p = c.match-rest.p.p;
      contents = c.span.ensures x;
      idk1 = c.match-rest.p.idk1;
      idk2 = c.match-rest.p.idk2;
    }))
