-- `card::key::top_in` meets its contract: eight bytes are one number, sixteen are two.
use Rattle.std.proofs.Common.{sym, ap, ◌∙◌, ℕ, ◌%◌, ◌^◌, take, arith}
use Rattle.std.specs.Prelude.{Some}
use Rattle.octets.specs.Number.{number}
use Rattle.octets.proofs.Comparing.{octets_lent}
use Rattle.keying.specs.declared.Top.TheVariants.{Single, Pair}
use Rattle.card.proofs.Keys.{top_single, key_of_no_length, top_pair}
use Rattle.card.proofs.key.top_in.Goals as goal

pub returns-in-8 : goal.returns-in-8
returns-in-8 c =
    let key = c.args.key.now in
    ap (λ (n : ℕ). Some (Single n)) c.number.ensures ∙ sym (top_single key (octets_lent key c.type_inv.key) c.in-8.is)

pub returns-in-16 : goal.returns-in-16
returns-in-16 c =
    let key = c.args.key.now in
    ap (λ (n : ℕ). Some (Pair n c.number-in-16-2.result)) c.number-in-16.ensures
    ∙ ap (λ (n : ℕ). Some (Pair (number (take 8 key) % 2 ^ 64) n)) c.number-in-16-2.ensures
    ∙ sym (top_pair key (octets_lent key c.type_inv.key) c.in-16.is)

pub returns-in_default : goal.returns-in_default
returns-in_default c =
    sym (key_of_no_length c.args.key.now (λ e. omega arith) (λ e. omega arith))
