-- The mark alone, or the mark or nothing and names.
use Rattle.std.proofs.Common.{◌≡◌, sym, ap, ◌∙◌, ℕ, ◌+◌, length, option_map, None, Some, cond, true}
use Rattle.octets.specs.Text.{Text}
use Rattle.csm.specs.Fields.{nonempty}
use Rattle.csm.proofs.KdTest.{is_mark}
use Rattle.fields.specs.Seen.{name_at}
use Rattle.fields.specs.Steps.{placed}
use Rattle.fields.specs.declared.pieces.Piece.{Piece}
use Rattle.fields.proofs.PieceLaws.{parted_some, parted_none}
use Rattle.fields.proofs.KeyLaws.{when_some, subs_one, subs_two, subs_three, subs_unmarked}
use Rattle.fields.proofs.keys.behind_key.Goals.{then-not-is_maybe_name-via-then-not-is_maybe_name, then-not-is_maybe_name-via-else-not-is_maybe_name+then-not-is_name}
use Rattle.fields.proofs.keys.behind_key.Goals as goal

abbrev told : Piece → ℕ × Text
told p = placed p.at p.w.now

pub returns-in_default : goal.returns-in_default
returns-in_default c =
    let i = c.args.piece.at in
    let t = parted_none told _ c.in_default.is c.parted.ensures in
    let m = c.parted.result.0.w.now in
    rw (t, subs_one i m) (c.then_some.ensures ∙ when_some c.same-p.result _
    ∙ (λ x. cond (c.same-p.ensures x) (Some (record { p = c.same-p.ensures x; idk1 = None; idk2 = None })) None))

pub returns-then-not-is_mark : goal.returns-then-not-is_mark
returns-then-not-is_mark c =
    let b = parted_some told _ _ c.in-Some.is c.parted.ensures in
    rw (
      b.text,
      subs_unmarked c.args.piece.at c.parted.result.0.w.now c.in-Some.names.w.now
          (sym c.is_mark.ensures ∙ c.if-not-is_mark.true),
    )

pub returns-in_default-second : goal.returns-in_default-second
returns-in_default-second c =
    let i = c.args.piece.at in
    let m = c.parted.result.0.w.now in
    let v = c.parted-2.result.0.w.now in
    let b = parted_some told _ _ c.in-Some.is c.parted.ensures in
    let t = parted_none told _ c.in_default-second.is c.parted-2.ensures in
    let marked : is_mark m ≡ true = sym c.is_mark.ensures ∙ c.if-not-is_mark.false in
    let n = c.parted-2.ensures.at ∙ b.at in
    let u = c.name.ensures ∙ ap (λ (j : ℕ). option_map (name_at j) (nonempty v)) n in
    rw (b.text, t, subs_two i m v, marked) (c.then_some-in_default-second.ensures ∙ when_some c.is_name.result _
    ∙ (λ x. cond (c.is_name.ensures x) (Some (record { p = c.same-p.ensures x; idk1 = u x; idk2 = None })) None))

-- neither test of the names holds
pub returns-then-not-is_maybe_name : goal.returns-then-not-is_maybe_name
returns-then-not-is_maybe_name c =
    let i = c.args.piece.at in
    let m = c.parted.result.0.w.now in
    let v = c.parted-2.result.0.w.now in
    let b = parted_some told _ _ c.in-Some.is c.parted.ensures in
    let d = parted_some told _ _ c.in-Some-second.is c.parted-2.ensures in
    let marked : is_mark m ≡ true = sym c.is_mark.ensures ∙ c.if-not-is_mark.false in
    elim c.then-not-is_maybe_name.branch [
      | then-not-is_maybe_name-via-then-not-is_maybe_name w ↦
          rw (b.text, d.text, subs_three i m v c.in-Some-second.second.w.now, marked, sym c.is_maybe_name.ensures ∙ w.if-not-is_maybe_name.true)
      | then-not-is_maybe_name-via-else-not-is_maybe_name+then-not-is_name w ↦
          rw (b.text, d.text, subs_three i m v c.in-Some-second.second.w.now, marked, sym c.is_maybe_name.ensures ∙ w.if-not-is_maybe_name.false, sym w.is_name-else-not-is_maybe_name.ensures ∙ w.if-not-is_name.true)
    ]

pub returns : goal.returns
returns c =
    let i = c.args.piece.at in
    let m = c.parted.result.0.w.now in
    let v = c.parted-2.result.0.w.now in
    let w = c.in-Some-second.second.w.now in
    let b = parted_some told _ _ c.in-Some.is c.parted.ensures in
    let d = parted_some told _ _ c.in-Some-second.is c.parted-2.ensures in
    let marked : is_mark m ≡ true = sym c.is_mark.ensures ∙ c.if-not-is_mark.false in
    let n = c.parted-2.ensures.at ∙ b.at in
    let u = c.name-2.ensures ∙ ap (λ (j : ℕ). option_map (name_at j) (nonempty v)) n in
    let o = d.at ∙ ap (λ (j : ℕ). j + length v + 1) b.at in
    let x = c.name-3.ensures ∙ ap (λ (j : ℕ). option_map (name_at j) (nonempty w)) o in
    rw (
      b.text,
      d.text,
      subs_three i m v w,
      marked,
      sym c.is_maybe_name.ensures ∙ c.if-not-is_maybe_name.false,
      sym c.is_name-else-not-is_maybe_name.ensures ∙ c.if-not-is_name.false,
    )
    (λ y. Some (record { p = c.same-p.ensures y; idk1 = u y; idk2 = x y }))
