-- What each class is read as, from what the code has of its fields.
use Rattle.std.specs.Prelude.{Option, None, Some, option_map, is_some}
use mathlib.Core.Path.{◌≡◌, refl, sym, ap, ◌∙◌}
use mathlib.Core.Bool.{Bool, true, false, cond, not, ◌&&◌, and-false}
use mathlib.Core.List.{[], ◌∷◌}
use Prim.Native.Nat.{ℕ}
use native.Mathlib.Omega.{arith}
use Rattle.std.specs.Bool.{then_some}
use lib.Dec.{leb}
use lib.ListN.{length, drop}
use borrow.Author.Tests.{lt-leb}
use Rattle.octets.specs.Text.{Text, ascii, blank, same, is_run}
use Rattle.octets.specs.declared.Span.{Span}
use Rattle.csm.specs.Format.{bind, after, until, value, plain, upto, pre, as_form, whole}
use Rattle.csm.specs.Fields.{RCV, ORG, SVR, EDC, ERF, CTP, CTR, MAC, IV, EDK, NOS, KD, tag, field, nothing, has_P}
use Rattle.csm.specs.Message as csm_message
use Rattle.csm.specs.Message.{closed, rsi, ksm, rsm, esm, counts_with_P, Values}
use Rattle.csm.specs.Message.{rsi_row, ksm_row, rsm_row, esm_row, rsi_record, rsi_values, ksm_record, ksm_values}
use Rattle.csm.specs.Message.{rsm_record, rsm_values, esm_record, esm_values}
use Rattle.csm.proofs.WordTests.{plain_value}
use Rattle.csm.proofs.MessageLaws.{flagged_found}
use Rattle.fields.specs.Seen.{taken, itself, inner, field_at, as_part}
use Rattle.fields.specs.declared.Field.{Field}
use Rattle.fields.specs.declared.Numeral.{Numeral}
use Rattle.fields.specs.declared.Kd.{Kd}
use Rattle.reader.specs.Seen.{shown_row, shown_at, next_at, rsi_with, ksm_with, rsm_with, esm_with}
use Rattle.reader.specs.Stages.{taken_at, seen_at, names_at, agree, rsi_body, ksm_body, rsm_body, esm_body}
use Rattle.reader.specs.declared.Head.{Head}
use Rattle.reader.specs.declared.Message.{Message}
use Rattle.reader.specs.declared.Message.TheVariants as message
use Rattle.reader.proofs.RowLaws.{done, need, passing, row_walk, form_whole, row_seen, form_seen, such_whole}

-- ---- the fields that the code asks for, each at a place

-- the text ends at a place
abbrev pub ended : Text → ℕ → Bool
ended s at = same (drop at s) (ascii ")")

-- what a run of no characters has read behind `NOS/`, and what NOS has, are shown alike
abbrev pub OneField : ℕ → Option (Text × Text) → Option (Unit {0} × Text) → Type 0
OneField at o p = field_at as_part itself at (tag NOS) (taken o) ≡ field_at as_part (inner NOS) at (tag NOS) (taken p)

-- for both have empty contents
pub empty_run : (at : ℕ) (u : Text)
    → OneField at ((pre (tag NOS) (upto blank (plain (is_run 0 0 0)))).read u) ((field NOS).read u)
empty_run at u = behind (after (tag NOS) u)
  where
    word : (w t : Text)
        → OneField at (bind (value (plain (is_run 0 0 0)) w) (λ a. Some (a, t))) (bind (value nothing w) (λ a. Some (a, t)))
    word [] t = refl
    word (x ∷ w) t =
        let more : leb (length (x ∷ w)) 0 ≡ false = lt-leb (length (x ∷ w)) 0 (omega arith) in
        let no_run : is_run 0 0 0 (x ∷ w) ≡ false = rw more (simp and-false) in
        rw (plain_value (is_run 0 0 0) (x ∷ w), no_run)

    piece : (o : Option (Text × Text))
        → OneField at (bind o (λ p. bind (value (plain (is_run 0 0 0)) p.0) (λ a. Some (a, p.1))))
        (bind o (λ p. bind (value nothing p.0) (λ a. Some (a, p.1))))
    piece None = refl
    piece (Some (w, t)) = word w t

    behind : (o : Option Text)
        → OneField at (bind o (upto blank (plain (is_run 0 0 0))).read) (bind o (upto blank nothing).read)
    behind None = refl
    behind (Some v) = piece (until blank v)

-- RCV and ORG
pub names_step : (s : Text) (at : ℕ) {r o : Field Span} → r ≡ seen_at RCV s at → o ≡ seen_at ORG s r.next
    → names_at s at ≡ bind r.contents (λ a. option_map (λ b. (record { rcv = a; org = b }, o.next)) o.contents)
unfolding names_at
names_step s at i j = rw (j, i)

module _ (h : Head) (s : Text) where
  -- ---- RSM

  pub rsm_step : (at : ℕ) {m : Field Numeral} → m ≡ seen_at MAC s at
      → rsm_body h at (drop at s)
      ≡ bind m.contents (λ a. then_some (ended s m.next) (message.Rsm (record { head = h; mac = a })))
  unfolding rsm_body
  rsm_step at {m} e =
      form_seen rsm_record rsm_values (closed rsm_row) (drop at s) (λ r. message.Rsm (rsm_with h (shown_row rsm_row at (rsm_values r))))
      ∙ row_seen rsm_row s at (λ v. message.Rsm (rsm_with h v))
      ∙ ap (λ (f : Field Numeral). option_map (λ v. message.Rsm (rsm_with h v)) (need f.contents (done (ended s f.next)))) (sym e)
      ∙ out m.contents (ended s m.next)
    where
      out : (o : Option Numeral) (b : Bool) → option_map (λ v. message.Rsm (rsm_with h v)) (need o (done b))
          ≡ bind o (λ a. then_some b (message.Rsm (record { head = h; mac = a })))
      out None b = refl
      out (Some a) true = refl
      out (Some a) false = refl

  -- ---- RSI

  pub rsi_step : (at : ℕ) {v e : Field Numeral} → v ≡ seen_at SVR s at → e ≡ seen_at EDC s v.next
      → rsi_body h at (drop at s)
      ≡ bind v.contents (λ a. then_some (ended s e.next)
      (message.Rsi (record { head = h; service = a.value; svr = a.span; edc = e.contents })))
  unfolding rsi_body
  rsi_step at {v} {e} i j =
      form_seen rsi_record rsi_values (closed rsi_row) (drop at s) (λ r. message.Rsi (rsi_with h (shown_row rsi_row at (rsi_values r))))
      ∙ row_seen rsi_row s at (λ v. message.Rsi (rsi_with h v)) ∙ rw (j, i) (out v₀.contents (seen_at EDC s v₀.next).contents (ended s (seen_at EDC s v₀.next).next))
    where
      v₀ : Field Numeral
      v₀ = seen_at SVR s at

      out : (o p : Option Numeral) (b : Bool)
          → option_map (λ v. message.Rsi (rsi_with h v)) (need o (option_map (λ b. (p, b)) (done b)))
          ≡ bind o (λ a. then_some b (message.Rsi (record { head = h; service = a.value; svr = a.span; edc = p })))
      out None p b = refl
      out (Some a) p true = refl
      out (Some a) p false = refl

  -- ---- ESM

  esm_cond : {M : Type 0} (r : csm_message.Esm) (f : csm_message.Esm → M) (b : Bool)
      → option_map f (cond b (Some r) None) ≡ then_some b (f r)
  esm_cond r f true = refl
  esm_cond r f false = refl

  pub esm_step : (at : ℕ) {c r l e : Field Numeral} → c ≡ seen_at CTP s at → r ≡ seen_at CTR s c.next
      → l ≡ seen_at ERF s r.next → e ≡ seen_at EDC s l.next
      → esm_body h at (drop at s)
      ≡ bind l.contents (λ a. then_some (ended s e.next && agree a.value (is_some c.contents) (is_some r.contents))
      (message.Esm (record { head = h; ctp = c.contents; ctr = r.contents; erf = a; edc = e.contents })))
  unfolding esm_body agree
  esm_step at i j k l =
      let n₁ = next_at CTP at o₁ in
      ap (option_map seen) (such_whole counts_with_P (as_form esm_record esm_values (closed esm_row)) (drop at s)
      ∙ ap (passing counts_with_P) (form_whole esm_record esm_values (closed esm_row) (drop at s)
      ∙ ap (option_map esm_record) (row_walk esm_row s at)))
      ∙ out at o₁ o₂ o₃ o₄ (ended s (next_at EDC n₃ o₄)) ∙ rw (l, k, j, i)
    where
      seen : csm_message.Esm → Message
      seen r = message.Esm (esm_with h (shown_row esm_row at (esm_values r)))

      o₁ : Option ℕ
      o₁ = taken_at CTP s at

      o₂ : Option ℕ
      o₂ = taken_at CTR s (next_at CTP at o₁)

      n₂ : ℕ
      n₂ = next_at CTR (next_at CTP at o₁) o₂

      o₃ : Option ℕ
      o₃ = taken_at ERF s n₂

      n₃ : ℕ
      n₃ = next_at ERF n₂ o₃

      o₄ : Option ℕ
      o₄ = taken_at EDC s n₃

      out : (at : ℕ) (c r l e : Option ℕ) (b : Bool)
          → let m = next_at CTP at c in let n = next_at CTR m r in let k = next_at ERF n l in
          option_map (λ r. message.Esm (esm_with h (shown_row esm_row at (esm_values r)))) (passing counts_with_P
          (option_map esm_record (option_map (λ b. (c, b)) (option_map (λ b. (r, b)) (need l (option_map (λ b. (e, b)) (done b)))))))
          ≡ bind (option_map (shown_at ERF n) l) (λ a. then_some (b && cond (has_P a.value)
          (is_some (option_map (shown_at CTP at) c) && is_some (option_map (shown_at CTR m) r))
          (not (is_some (option_map (shown_at CTP at) c)) && not (is_some (option_map (shown_at CTR m) r))))
          (message.Esm (record {
            head = h;
            ctp = option_map (shown_at CTP at) c;
            ctr = option_map (shown_at CTR m) r;
            erf = a;
            edc = option_map (shown_at EDC k) e;
          })))
      out at c r None e b = refl
      out at c r (Some n) e false = refl
      out at None None (Some n) e true = esm_cond (record { ctp = None; ctr = None; erf = n; edc = e }) _ _
      out at (Some c) None (Some n) e true = esm_cond (record { ctp = Some c; ctr = None; erf = n; edc = e }) _ _
      out at None (Some r) (Some n) e true = esm_cond (record { ctp = None; ctr = Some r; erf = n; edc = e }) _ _
      out at (Some c) (Some r) (Some n) e true = esm_cond (record { ctp = Some c; ctr = Some r; erf = n; edc = e }) _ _

  -- ---- KSM

  pub ksm_step : (at : ℕ) {v : Field Span} {k j : Field Kd} {i d : Field Span} {c m : Field Numeral} → v ≡ seen_at NOS s at
      → k ≡ seen_at KD s v.next → j ≡ seen_at KD s k.next → i ≡ seen_at IV s j.next → d ≡ seen_at EDK s i.next
      → c ≡ seen_at CTP s d.next → m ≡ seen_at MAC s c.next
      → ksm_body h at (drop at s)
      ≡ bind k.contents (λ a. bind c.contents (λ b. bind m.contents (λ e. then_some (ended s m.next)
      (message.Ksm (record {
        head = h;
        nos = is_some v.contents;
        first = a;
        second = j.contents;
        iv = i.contents;
        edk = d.contents;
        ctp = b;
        mac = e;
      })))))
  unfolding ksm_body
  ksm_step at {v} {k} {j} {i} {d} {c} {m} ve ke je ie de ce me =
      form_seen ksm_record ksm_values (closed ksm_row) (drop at s) (λ r. message.Ksm (ksm_with h (shown_row ksm_row at (ksm_values r))))
      ∙ (λ x. option_map (λ w. message.Ksm (ksm_with h (shown_row ksm_row at (flagged_found w.0 x, w.1)))) (whole (closed ksm_row) (drop at s)))
      ∙ row_seen ksm_row s at (λ w. message.Ksm (ksm_with h w))
      ∙ rw (me, ce, de, ie, je, ke, ve) (out (seen_at NOS s at).contents _ _ _ _ _ _ _)
    where
      out : (v : Option Span) (k j : Option Kd) (i d : Option Span) (c m : Option Numeral) (b : Bool)
          → option_map (λ w. message.Ksm (ksm_with h w)) (option_map (λ b. (v, b)) (need k (option_map (λ b. (j, b))
          (option_map (λ b. (i, b)) (option_map (λ b. (d, b)) (need c (need m (done b))))))))
          ≡ bind k (λ a. bind c (λ x. bind m (λ e. then_some b (message.Ksm (record {
            head = h;
            nos = is_some v;
            first = a;
            second = j;
            iv = i;
            edk = d;
            ctp = x;
            mac = e;
          })))))
      out v None j i d c m b = refl
      out v (Some k) j i d None m b = refl
      out v (Some k) j i d (Some c) None b = refl
      out None (Some k) j i d (Some c) (Some m) true = refl
      out (Some v) (Some k) j i d (Some c) (Some m) true = refl
      out v (Some k) j i d (Some c) (Some m) false = refl
