-- No field is longer than its longest contents, so no message of known fields is longer than 237 bytes.
use Rattle.std.specs.Prelude.{Option, None, Some}
use mathlib.Core.Path.{◌≡◌, refl, sym, ap, ◌∙◌}
use mathlib.Core.Bool.{Bool, true, false, ◌&&◌, true≢false}
use mathlib.Core.List.{[], ◌∷◌, ◌++◌}
use Prim.Native.Nat.{ℕ, ◌+◌, ◌≤◌}
use native.Mathlib.Omega.{arith}
use lib.Dec.{leb}
use lib.ListN.{length, length-append}
use borrow.Author.Tests.{leb-true, ltb-true}
use Rattle.octets.specs.Text.{Text, ascii, blank, all, within, run_char, is_run}
use Rattle.octets.proofs.Comparing.{both as and_true}
use Rattle.csm.specs.Format.{maybe_legal, maybe_print}
use Rattle.csm.specs.Fields.{hex, hex_text, decimal, svr, erf, Kd, sub, mark, named, subfields}
use Rattle.csm.specs.Fields.{legal_name, kd, class_text, tag, contents, Contents, field}
use Rattle.csm.specs.Fields.{Field, MCL, RCV, ORG, SVR, NOS, KD, IV, EDK, CTP, CTR, ERF, MAC, EDC}
use Rattle.csm.specs.Message.{Row, one, opt, Values, fields, closed, head_row, rsi_row, ksm_row, rsm_row}
use Rattle.csm.specs.Message.{esm_row, rsi_values, ksm_values, rsm_values, esm_values, counts_with_P}
use Rattle.csm.specs.Message.{Body, rsi, ksm, rsm, esm, option, Reading, legal_body, print_body}
use Rattle.csm.specs.Message.{head, head_of, message, legal, print}
use Rattle.csm.proofs.TextLaws.{within_true, true_within}
use Rattle.csm.proofs.NumberLaws.{hex_length, decimal_counted}
use Rattle.csm.proofs.FieldLaws.{below_at, class_size}
use Rattle.csm.proofs.CharLaws.{row_end, row_legal, row_made}

-- ---- contents with their blank

abbrev pub longest_contents : Field → ℕ
longest_contents MCL = 4
longest_contents RCV = 17
longest_contents ORG = 17
longest_contents SVR = 10
longest_contents NOS = 1
longest_contents KD = 53
longest_contents IV = 18
longest_contents EDK = 13
longest_contents CTP = 9
longest_contents CTR = 9
longest_contents ERF = 10
longest_contents MAC = 10
longest_contents EDC = 10

run_length : (top low high : ℕ) (w : Text) → is_run top low high w ≡ true → length w ≤ high
run_length top low high w k =
    (within_true low high (length w) (and_true (all (run_char top) w) (within low high (length w)) k).1).1

-- a blank more
blank_length : (n : ℕ) (w : Text) → length w ≤ n → length (w ++ blank ∷ []) ≤ n + 1
blank_length n w h = simp length-append (omega arith)

mark_length : (p : Bool) → length (sub (mark p)) ≤ 2
mark_length true = omega arith
mark_length false = omega arith

name_length : (o : Option Text) → legal_name o ≡ true → length (sub (named o)) ≤ 17
name_length None k = omega arith
name_length (Some w) k = let i = run_length 90 1 16 w k in omega arith

subfields_length : (p : Bool) (i j : Option Text) → legal_name i ≡ true → legal_name j ≡ true
    → length (subfields p i j) ≤ 36
subfields_length p i (Some w) a b =
    let l = mark_length p in
    let m = name_length i a in
    let n = name_length (Some w) b in
    omega (
      arith,
      length-append (sub (mark p)) (sub (named i) ++ sub w),
      length-append (sub (named i)) (sub w),
    )
subfields_length p (Some v) None a b =
    let l = mark_length p in
    let n = name_length (Some v) a in
    omega (arith, length-append (sub (mark p)) (sub v))
subfields_length true None None a b = omega arith
subfields_length false None None a b = omega arith

kd_length : (r : Kd) → kd.legal r ≡ true → length (kd.text r) ≤ 52
kd_length r k =
    let h = and_true ((hex 16).legal r.key) (legal_name r.idk1 && legal_name r.idk2) k in
    let i = and_true (legal_name r.idk1) (legal_name r.idk2) h.1 in
    let l = subfields_length r.p r.idk1 r.idk2 i.0 i.1 in
    let m = hex_length 16 r.key in
    omega (arith, length-append (hex_text 16 r.key) (subfields r.p r.idk1 r.idk2))

count_length : (n : ℕ) → within 1 99_999_999 n ≡ true → length (decimal 7 n) ≤ 8
count_length n k =
    let h = within_true 1 99_999_999 n k in
    (decimal_counted 7 n h.0 (omega arith)).few

svr_length : (n : ℕ) → svr.legal n ≡ true → length (svr.text n) ≤ 9
svr_length n k =
    leb-true (length (svr.text n)) 9 (below_at 12 (λ i. leb (length (svr.text i)) 9) refl n (ltb-true n 12 k))

erf_length : (n : ℕ) → erf.legal n ≡ true → length (erf.text n) ≤ 9
erf_length n k =
    let h = within_true 1 511 n k in
    leb-true (length (erf.text n)) 9 (below_at 512 (λ i. leb (length (erf.text i)) 9) refl n (omega arith))

pub contents_length : (f : Field) (a : Contents f) → (contents f).legal a ≡ true
    → length ((contents f).print a) ≤ longest_contents f
contents_length MCL a k = blank_length 3 (class_text a) (omega (arith, class_size a))
contents_length RCV a k = blank_length 16 a (run_length 90 1 16 a k)
contents_length ORG a k = blank_length 16 a (run_length 90 1 16 a k)
contents_length SVR a k = blank_length 9 (svr.text a) (svr_length a k)
contents_length NOS a k = omega arith
contents_length KD a k = blank_length 52 (kd.text a) (kd_length a k)
contents_length IV a k = blank_length 17 a (run_length 90 1 17 a k)
contents_length EDK a k = blank_length 12 a (run_length 0 12 12 a k)
contents_length CTP a k = blank_length 8 (decimal 7 a) (count_length a k)
contents_length CTR a k = blank_length 8 (decimal 7 a) (count_length a k)
contents_length ERF a k = blank_length 9 (erf.text a) (erf_length a k)
contents_length MAC a k = omega arith
contents_length EDC a k = omega arith

-- ---- rows and messages

abbrev pub longest : Row → ℕ
longest [] = 0
longest (one f ∷ rs) = length (tag f) + longest_contents f + longest rs
longest (opt f ∷ rs) = length (tag f) + longest_contents f + longest rs

pub field_length : (f : Field) (a : Contents f) → (field f).legal a ≡ true
    → length ((field f).print a) ≤ length (tag f) + longest_contents f
field_length f a k =
    let h = contents_length f a k in
    omega (arith, length-append (tag f) ((contents f).print a))

pub maybe_length : (f : Field) (o : Option (Contents f)) → maybe_legal (field f) o ≡ true
    → length (maybe_print (field f) o) ≤ length (tag f) + longest_contents f
maybe_length f None k = omega arith
maybe_length f (Some a) k = field_length f a k

pub row_length : (rs : Row) (v : Values rs) → (fields rs []).legal v ≡ true
    → length ((fields rs []).print v) ≤ longest rs
row_length =
    row_made (λ rs t. length t ≤ longest rs) (omega arith)
    (λ f a k rs t h.
    let i = field_length f a k in
    let l = length-append ((field f).print a) t in
    (omega arith, omega arith))
    (λ f rs t h. omega arith)

pub closed_length : (rs : Row) (v : Values rs) → (closed rs).legal v ≡ true
    → length ((closed rs).print v) ≤ longest rs + 1
closed_length rs v k =
    let h = row_length rs v (sym (row_legal rs (ascii ")") v) ∙ k) in
    let e = ap length (row_end rs (ascii ")") v) in
    omega (arith, e, length-append ((fields rs []).print v) (ascii ")"))

-- a class's own fields, not an option
abbrev pub known : Body → Bool
known (rsi r) = true
known (ksm r) = true
known (rsm r) = true
known (esm r) = true
known (option c w) = false

pub known_length : (b : Body) → known b ≡ true → legal_body b ≡ true → length (print_body b) ≤ 183
known_length (rsi r) e k = let h = closed_length rsi_row (rsi_values r) k in omega arith
known_length (ksm r) e k = closed_length ksm_row (ksm_values r) k
known_length (rsm r) e k = let h = closed_length rsm_row (rsm_values r) k in omega arith
known_length (esm r) e k =
    let h = closed_length esm_row (esm_values r)
    (and_true ((closed esm_row).legal (esm_values r)) (counts_with_P r) k).0 in
    omega arith
known_length (option c w) e k = absurd (true≢false (sym e))

pub message_length : (r : Reading) → known r.body ≡ true → message.legal r ≡ true
    → length (message.print r) ≤ 237
message_length r e k =
    let l = and_true (head.legal (head_of r)) (legal_body r.body) k in
    let h = row_length head_row (head_of r) l.0 in
    let b = known_length r.body e l.1 in
    omega (arith, length-append (head.print (head_of r)) (print_body r.body))

-- so the length need not be asked of it
pub known_legal : (r : Reading) → known r.body ≡ true → message.legal r ≡ true → legal r ≡ true
unfolding legal print
known_legal r e k =
    let h = message_length r e k in
    let n = length-append (head.print (head_of r)) (print_body r.body) in
    rw k (true_within 1 512 (length (message.print r)) (omega arith) (omega arith))
