-- A message that was written up to its MAC, and then sealed.
use Rattle.std.specs.Prelude.{Some}
use mathlib.Core.Path.{◌≡◌, refl, sym, ap, ◌∙◌}
use mathlib.Core.List.{[], ◌∷◌, ◌++◌}
use Prim.Native.Nat.{ℕ, ◌+◌, ◌-◌, ◌≤◌}
use native.Mathlib.Omega.{arith}
use lib.ListN.{length, take, drop, length-append}
use lib.Seq.{take_at}
use Rattle.octets.specs.Text.{Text, ascii}
use Rattle.octets.specs.Wrote.{over}
use Rattle.octets.proofs.Writing.{length_over}
use Rattle.keying.specs.Mac.{mac}
use Rattle.csm.specs.Message.{Reading, print}
use Rattle.csm.specs.Covered.{covered_part, mac_of}
use Rattle.csm.proofs.CoveredLaws.{mac_end, mac_end_length, sealed_text}
use Rattle.octets.specs.Wrote.{Wrote}
use Rattle.octets.proofs.Writing.{wrote_as, wrote_fits}
use Rattle.messages.specs.Readings.{sealed}
use Rattle.messages.specs.Parts.{sealed_front, unsealed_text}

-- x was laid over l, and then x and more over that
over_again : (x t l : Text) → over (x ++ t) (over x l) ≡ over (x ++ t) l
over_again [] t l = refl
over_again (a ∷ x) t [] = refl
over_again (a ∷ x) t (b ∷ l) = ap (λ (s : Text). a ∷ s) (over_again x t l)

wrote_again : {x l l₁ l₂ : Text} {n m : ℕ} (t : Text) → Wrote x l l₁ n → Wrote (x ++ t) l₁ l₂ m → Wrote (x ++ t) l l₂ m
wrote_again {x} {l} {l₁} {l₂} {n} {m} t p q =
    let c = q.count in
    let s = ap length p.text ∙ length_over x l in
    record {
      text = q.text ∙ ap (over (x ++ t)) p.text ∙ over_again x t l;
      count = omega arith;
    }

-- a reading whose MAC is its argument, and whose covered part does not depend on it
pub record Sealable (q : ℕ → Reading) : Type 0 where
  pub has : (k : ℕ) → mac_of (q k).body ≡ Some k
  pub same : (k : ℕ) → covered_part (q k) ≡ covered_part (q 0)

module _ {q : ℕ → Reading} (s : Sealable q) (key : ℕ) where
  abbrev k : ℕ
  k = mac key (covered_part (q 0))

  -- the text of the sealed reading: that up to its MAC, and the MAC's end
  text_is : unsealed_text q ++ mac_end k ≡ print (sealed key q)
  unfolding unsealed_text
  text_is =
      ap (λ (r : Text). ascii "CSM(" ++ (r ++ mac_end k)) (sym (s.same k)) ∙ sym (sealed_text (q k) k (s.has k))

  length_is : length (unsealed_text q) + 15 ≡ length (print (sealed key q))
  length_is =
      let a = length-append (unsealed_text q) (mac_end k) in
      let b = mac_end_length k in
      let c = ap length text_is in
      omega arith

  module _ {l l₁ : Text} {n : ℕ} (p : Wrote (unsealed_text q) l l₁ n)
      (h : length (print (sealed key q)) ≤ length l) where
    pub seal_ready : (4 ≤ n) × (n ≤ length l₁)
    unfolding unsealed_text
    seal_ready =
        let a = length_is in
        let c = p.count in
        let e = ap length p.text ∙ length_over (unsealed_text q) l in
        (omega arith, omega arith)

    pub wrote_sealed : {l₂ : Text} {m : ℕ} → Wrote (sealed_front n key l₁) l₁ l₂ m → Wrote (print (sealed key q)) l l₂ m
    unfolding unsealed_text sealed_front
    wrote_sealed {l₂} {m} w =
        let v = covered_part (q 0) in
        let x = ascii "CSM(" ++ v in
        let i = length_is in
        let f = wrote_fits p (omega arith) in
        let a : take n l₁ ≡ x = ap (take n) f.0 ∙ take_at x (drop (length x) l) n (sym f.1) in
        let b : take (n - 4) (drop 4 l₁) ≡ v =
        ap (λ (r : Text). take (n - 4) (drop 4 r)) f.0
        ∙ take_at v (drop (length x) l) (n - 4) (omega (arith, f.1)) in
        let e : sealed_front n key l₁ ≡ x ++ mac_end (mac key v) =
        ap (λ (r : Text). r ++ mac_end (mac key (take (n - 4) (drop 4 l₁)))) a
        ∙ ap (λ (r : Text). x ++ mac_end (mac key r)) b in
        wrote_as text_is (wrote_again (mac_end (mac key v)) p (wrote_as e w))
