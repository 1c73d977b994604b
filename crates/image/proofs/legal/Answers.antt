-- `image::legal` meets its contract: what the pass asks from here on is what is asked of the image.
use mathlib.Core.Path.{◌≡◌, sym, ap, ◌∙◌}
use mathlib.Core.Bool.{Bool, true, false, ◌&&◌}
use Prim.Native.Nat.{ℕ, ◌+◌, ◌-◌}
use native.Mathlib.Omega.{arith}
use lib.ListN.{get_or}
use Rattle.octets.specs.Text.{Text}
use Rattle.octets.proofs.Comparing.{octets_lent}
use Rattle.image.specs.Image.{record_length, front_size}
use Rattle.image.specs.Pass.{front_legal, record_legal}
use Rattle.image.proofs.Legality.{legal_pass}
use Rattle.image.proofs.Passes.{records_legal, records_end, records_step}
use Rattle.image.proofs.legal.Goals as goal

pub returns-then-not-front_legal : goal.returns-then-not-front_legal
returns-then-not-front_legal c =
    let im : Text = c.args.image.now in
    let o = octets_lent im c.type_inv.image in
    let f : front_legal im ≡ false = sym c.front_legal.ensures ∙ c.if-not-front_legal.true in
    sym (legal_pass im o ∙ ap (λ (b : Bool). b && records_legal 64 front_size im) f)

pub loop-left-init : goal.loop-left-init
loop-left-init c =
    let im : Text = c.args.image.now in
    let o = octets_lent im c.type_inv.image in
    let f : front_legal im ≡ true = sym c.front_legal.ensures ∙ c.if-not-front_legal.false in
    record { near = omega arith; so = legal_pass im o ∙ ap (λ (b : Bool). b && records_legal 64 front_size im) f }

pub returns-then-not-record_legal : goal.returns-then-not-record_legal
returns-then-not-record_legal c =
    let im : Text = c.args.image.now in
    let at : ℕ = c.loop-left.at in
    let left : ℕ = c.loop-left.left in
    let f : record_legal (left - 1) at im ≡ false = sym c.record_legal.ensures ∙ c.if-not-record_legal.true in
    sym (c.loop-left.invariant.so ∙ records_step left at im (omega arith)
    ∙ ap (λ (b : Bool). b && records_legal (left - 1) (at + record_length (get_or im at 0)) im) f)

pub loop-left-preserved : goal.loop-left-preserved
loop-left-preserved c =
    let im : Text = c.args.image.now in
    let at : ℕ = c.loop-left.at in
    let left : ℕ = c.loop-left.left in
    let next = c.behind-at.ensures in
    let f : record_legal (left - 1) at im ≡ true =
    sym c.record_legal.ensures ∙ c.if-not-record_legal.false in
    let so =
    c.loop-left.invariant.so ∙ records_step left at im (omega arith)
    ∙ ap (λ (b : Bool). b && records_legal (left - 1) (at + record_length (get_or im at 0)) im) f
    ∙ ap (λ (k : ℕ). records_legal (left - 1) k im) (sym next.value) in
    record { near = omega arith; so = so }

pub returns : goal.returns
returns c =
    let im : Text = c.args.image.now in
    let at : ℕ = c.loop-left.at in
    let left : ℕ = c.loop-left.left in
    sym (c.loop-left.invariant.so ∙ records_end left at im (omega arith))
