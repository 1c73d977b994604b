-- Of each public function: any two outcomes that its contract allows are equal.
use mathlib.Core.Path.{◌≡◌, refl, ap}
use Prim.Native.Nat.{ℕ}
use native.Mathlib.Omega.{arith}
use borrow.Author.Rules.{rules}
use Rattle.octets.specs.One.{OneOutcome}
use Rattle.octets.proofs.Alike.{alike}
use Rattle.keying.specs.declared.DataKeys.{DataKeys}
use Rattle.keying.specs.declared.DataKeys.TheVariants.{None, One, Two}
use Rattle.keying.specs.Keys.{listed}
use Rattle.partner.specs.declared.DataKey.{DataKey}
use Rattle.partner.specs.declared.KeySet.{KeySet}
use Rattle.partner.specs.declared.TopKey.{TopKey}
use Rattle.partner.specs.declared.Sending.{Sending}
use Rattle.partner.specs.declared.Receiving.{Receiving}
use Rattle.partner.specs.declared.Entry.{Entry}
use Rattle.partner.specs.Entry.{unused, no_keys as keyless, empty as zeros}
use Rattle.partner.specs.contracts as contract
use Rattle.partner.proofs as fn

-- `data_keys`: two results that list the same keys are equal
listed_same : (a b : DataKeys) → listed a ≡ listed b → a ≡ b
listed_same None None e = refl
listed_same None (One k) e = absurd (let z : ◌≡◌ {A = ℕ} 0 1 = cc in omega arith)
listed_same None (Two k l) e = absurd (let z : ◌≡◌ {A = ℕ} 0 1 = cc in omega arith)
listed_same (One k) None e = absurd (let z : ◌≡◌ {A = ℕ} 0 1 = cc in omega arith)
listed_same (One k) (One m) e = let h : k ≡ m = cc in ap One h
listed_same (One k) (Two m n) e = absurd (let z : ◌≡◌ {A = ℕ} 0 1 = cc in omega arith)
listed_same (Two k l) None e = absurd (let z : ◌≡◌ {A = ℕ} 0 1 = cc in omega arith)
listed_same (Two k l) (One m) e = absurd (let z : ◌≡◌ {A = ℕ} 0 1 = cc in omega arith)
listed_same (Two k l) (Two m n) e =
    let g : k ≡ m = cc in
    let h : l ≡ n = cc in
    cc

pub name_of : OneOutcome contract.name_of.ended fn.name_of.Reads.Post
name_of κs a x y v w p q = (alike p q, refl)

pub top_of : OneOutcome contract.top_of.ended fn.top_of.Reads.Post
top_of κs a x y v w p q = (alike p q, refl)

pub data_keys : OneOutcome contract.data_keys.ended fn.data_keys.Reads.Post
data_keys κs a x y v w p q = (listed_same x y (alike p q), refl)

pub no_keys : OneOutcome contract.no_keys.ended fn.no_keys.Reads.Post
no_keys κs a x y v w p q = (alike p q, refl)

pub one_key : OneOutcome contract.one_key.ended fn.one_key.Reads.Post
one_key κs a x y v w p q = (alike p q, refl)

pub two_keys : OneOutcome contract.two_keys.ended fn.two_keys.Reads.Post
two_keys κs a x y v w p q = (alike p q, refl)

pub empty : OneOutcome contract.empty.ended fn.empty.Reads.Post
empty κs a x y v w p q = (alike p q, refl)

-- ---- what is zero throughout

pub zero_name : OneOutcome contract.NameDefault.default.ended fn.NameDefault.default.Reads.Post
zero_name κs a x y v w p q = (alike p q, refl)

pub zero_key : OneOutcome contract.DataKeyDefault.default.ended fn.DataKeyDefault.default.Reads.Post
zero_key κs a x y v w p q =
    let g : ◌≡◌ {A = DataKey} x unused = search rules in
    let h : ◌≡◌ {A = DataKey} y unused = search rules in
    (alike g h, refl)

pub zero_set : OneOutcome contract.KeySetDefault.default.ended fn.KeySetDefault.default.Reads.Post
zero_set κs a x y v w p q =
    let g : ◌≡◌ {A = KeySet} x keyless = search rules in
    let h : ◌≡◌ {A = KeySet} y keyless = search rules in
    (alike g h, refl)

pub zero_top : OneOutcome contract.TopKeyDefault.default.ended fn.TopKeyDefault.default.Reads.Post
unfolding zeros
zero_top κs a x y v w p q =
    let g : ◌≡◌ {A = TopKey} x zeros.top = search rules in
    let h : ◌≡◌ {A = TopKey} y zeros.top = search rules in
    (alike g h, refl)

pub zero_sending : OneOutcome contract.SendingDefault.default.ended fn.SendingDefault.default.Reads.Post
unfolding zeros
zero_sending κs a x y v w p q =
    let g : ◌≡◌ {A = Sending} x zeros.sending = search rules in
    let h : ◌≡◌ {A = Sending} y zeros.sending = search rules in
    (alike g h, refl)

pub zero_receiving : OneOutcome contract.ReceivingDefault.default.ended fn.ReceivingDefault.default.Reads.Post
unfolding zeros
zero_receiving κs a x y v w p q =
    let g : ◌≡◌ {A = Receiving} x zeros.receiving = search rules in
    let h : ◌≡◌ {A = Receiving} y zeros.receiving = search rules in
    (alike g h, refl)

pub zero_entry : OneOutcome contract.EntryDefault.default.ended fn.EntryDefault.default.Reads.Post
unfolding zeros
zero_entry κs a x y v w p q =
    let g : ◌≡◌ {A = Entry} x zeros = search rules in
    let h : ◌≡◌ {A = Entry} y zeros = search rules in
    (alike g h, refl)
