-- What is claimed of every call over the stored image; proved as `claims` in proofs/Claims.antt.
use Rattle.std.specs.Prelude.{◌≡◌, true, [], ◌∷◌, ℕ, ◌^◌, ◌<◌, ◌≤◌, length, Some}
use Rattle.octets.specs.Text.{Text, stands}
use Rattle.octets.specs.Part.{all_octets, found}
use Rattle.keying.specs.declared.Top.{Top}
use Rattle.keying.specs.declared.Top.TheVariants.{Single, Pair}
use Rattle.partner.specs.Changes.{left_of, right_of}
use Rattle.partner.specs.Table.{Table}
use Rattle.image.specs.Image.{decode}
use Rattle.calls.specs.declared.Request.{Request}
use Rattle.calls.specs.Outcome.{Outcome, nothing, refusal, complaint, success}
use Rattle.calls.specs.Calls.{Act, build_ksm, build_rsi, give_up, remove, ask, Call, receive, about, load, run}
use Rattle.calls.specs.Claims.{Sized}
use Rattle.calls.specs.Orders.{answers}
use Rattle.outcome.specs.Report.{replied}
use Rattle.card.specs.Over.{outcome_over, image_over}
use Rattle.card.specs.Whole.{ask_over, start_over, load_over, remove_over}

-- keys and IV are of 64 bits; in bytes they are
abbrev pub ActOf64Bits : Act → Type 0
ActOf64Bits (build_ksm room q) = Sized q
ActOf64Bits (build_rsi room contents) = Unit {0}
ActOf64Bits give_up = Unit {0}
ActOf64Bits remove = Unit {0}
ActOf64Bits ask = Unit {0}

abbrev pub Of64Bits : Call → Type 0
Of64Bits (receive room text) = Unit {0}
Of64Bits (about id a) = ActOf64Bits a
Of64Bits (load id name top) = (left_of top < 2 ^ 64) × (right_of top < 2 ^ 64)

-- the calls but load and remove, which add a record or take one out
abbrev pub ActInPlace : Act → Type 0
ActInPlace (build_ksm room q) = Unit {0}
ActInPlace (build_rsi room contents) = Unit {0}
ActInPlace give_up = Unit {0}
ActInPlace remove = ⊥
ActInPlace ask = Unit {0}

abbrev pub InPlace : Call → Type 0
InPlace (receive room text) = Unit {0}
InPlace (about id a) = ActInPlace a
InPlace (load id name top) = ⊥

-- unless it is done, a bare refusal with one of the paper's numbers
pub record DoneOrRefused (o : Outcome) : Type 0 where
  pub answer : o.answer ≤ 13
  pub bare : (o.answer ≡ 0 → ⊥) → o ≡ refusal o.answer

-- with 0, what was written is a legal image
abbrev pub NewImage : Outcome → Type 0
NewImage o = o.answer ≡ 0 → found (decode o.reply) ≡ true

pub record Claims : Type 0 where
  -- the answers are the paper's, each call's own
  pub answers_are_the_papers : (image : Text) (c : Call) → stands (outcome_over image c).answer (answers c) ≡ true
  -- a refusal and an error leave every byte of the image as it was
  pub unless_done_nothing_changes : (image : Text) (c : Call)
      → ((outcome_over image c).answer ≡ 0 → ⊥) → image_over image c ≡ image
  -- with a refusal every other part of the result is zero or empty, and no byte of the buffer differs
  pub refusals_are_bare : (image : Text) (c : Call)
      → ((outcome_over image c).answer ≡ 0 → ⊥) → ((outcome_over image c).answer ≡ 4 → ⊥)
      → outcome_over image c ≡ refusal (outcome_over image c).answer
  pub refusals_write_nothing : (image : Text) (c : Call) (buffer : Text)
      → ((outcome_over image c).answer ≡ 0 → ⊥) → ((outcome_over image c).answer ≡ 4 → ⊥)
      → replied (outcome_over image c) buffer ≡ buffer
  -- a legal image stays legal: it is that of the table after the call
  pub stays_legal : (image : Text) (t : Table) (c : Call) → all_octets image ≡ true → Of64Bits c
      → decode image ≡ Some t → decode (image_over image c) ≡ Some (run t c).table
  -- receive, build, give up and ask keep its length
  pub length_stays : (image : Text) (c : Call) → all_octets image ≡ true → Of64Bits c → InPlace c
      → length (image_over image c) ≡ length image
  -- ask, start, load and remove as they write to a buffer
  pub ask_answers : (image : Text) (room : ℕ) (id : Text) → DoneOrRefused (ask_over image room id)
  pub start_answers : (own : Text) (room : ℕ) → DoneOrRefused (start_over own room)
  pub load_answers : (image : Text) (room : ℕ) (id name key : Text)
      → DoneOrRefused (load_over image room id name key)
  pub remove_answers : (image : Text) (room : ℕ) (id : Text) → DoneOrRefused (remove_over image room id)
  -- each new image is legal
  pub started_image : (own : Text) (room : ℕ) → NewImage (start_over own room)
  pub loaded_image : (image : Text) (room : ℕ) (id name key : Text) → all_octets image ≡ true
      → all_octets key ≡ true → NewImage (load_over image room id name key)
  pub removed_image : (image : Text) (room : ℕ) (id : Text) → all_octets image ≡ true
      → NewImage (remove_over image room id)
  -- the words above: which calls are in place, of which numbers 64 bits are asked, what no refusal and no image is
  pub kept_in_place : (room : ℕ) (id text : Text) (q : Request)
      → InPlace (receive room text) × (InPlace (about id (build_ksm room q)) × (InPlace (about id (build_rsi room text))
      × (InPlace (about id give_up) × InPlace (about id ask))))
  pub load_adds : (id name : Text) (top : Top) → InPlace (load id name top) → ⊥
  pub remove_takes_out : (id : Text) → InPlace (about id remove) → ⊥
  pub without_numbers : (room : ℕ) (id text : Text)
      → Of64Bits (receive room text) × (Of64Bits (about id (build_rsi room text)) × (Of64Bits (about id give_up)
      × (Of64Bits (about id remove) × Of64Bits (about id ask))))
  pub request_of_64_bits : (room : ℕ) (id : Text) (q : Request)
      → q.first.key < 2 ^ 64 → q.second.key < 2 ^ 64 → q.iv < 2 ^ 64 → Of64Bits (about id (build_ksm room q))
  pub single_of_64_bits : (id name : Text) (key : ℕ) → key < 2 ^ 64 → Of64Bits (load id name (Single key))
  pub pair_of_64_bits : (id name : Text) (left right : ℕ) → left < 2 ^ 64 → right < 2 ^ 64
      → Of64Bits (load id name (Pair left right))
  pub fourteen_is_no_answer : DoneOrRefused (refusal 14) → ⊥
  pub letters_are_not_bare : DoneOrRefused (complaint 1 []) → ⊥
  pub reply_is_not_bare : DoneOrRefused (record { answer = 6; letters = 0; reply = 0 ∷ []; told = nothing }) → ⊥
  pub no_byte_is_no_image : NewImage (success [] nothing) → ⊥
