use Rattle.std.proofs.Common.{◌≡◌, ◌∙◌, refl, ℕ, ◌+◌, ◌<◌, ◌==◌, true, false, List, length, get_or, set, arith}
use Rattle.std.proofs.lemmas.Bool.Decides.{nat_tests}
use Rattle.std.proofs.lemmas.List.{get_or-set_same, get_or-set_other, length-set}
use Rattle.lpc_message.specs.Layout.{header_of}
use Rattle.lpc_states.proofs.Padded.{number_same}
use Rattle.lpc_states.proofs.messages.header_in.Goals as goal

header_same : (xs ys : List ℕ) → ((k : ℕ) → k < 24 → get_or xs k 0 ≡ get_or ys k 0) → header_of xs ≡ header_of ys
header_same xs ys same =
    rw (number_same 2 0 xs ys same (omega arith), number_same 2 2 xs ys same (omega arith), number_same 2 4 xs ys same (omega arith), number_same 2 6 xs ys same (omega arith), number_same 4 8 xs ys same (omega arith), number_same 4 12 xs ys same (omega arith), number_same 4 16 xs ys same (omega arith), number_same 4 20 xs ys same (omega arith)) refl

-- one place more was copied
copied_more : (at : ℕ) (front bytes : List ℕ) (b : ℕ) → at < length front → b ≡ get_or bytes at 0 → ((k : ℕ) → k < at → get_or front k 0 ≡ get_or bytes k 0) → (k : ℕ) → k < at + 1 → get_or (set front at b) k 0 ≡ get_or bytes k 0
copied_more at front bytes b within here before k below =
    elim (k == at) as (λ t. ((k == at) ≡ t) → get_or (set front at b) k 0 ≡ get_or bytes k 0) [
      | true ↦ λ e. let same : k ≡ at = grind (arith, nat_tests) in rw same (get_or-set_same front at b 0 within ∙ here)
      | false ↦ λ e. get_or-set_other front at k b 0 (λ same. absurd (grind (arith, nat_tests))) ∙ before k (grind (arith, nat_tests))
    ] refl

pub loop-place-preserved : goal.loop-place-preserved
loop-place-preserved c = record {
  long = length-set c.loop-place.front c.loop-place.place c.byte_in.result ∙ c.loop-place.invariant.long;
  copied = copied_more c.loop-place.place c.loop-place.front c.args.bytes.now c.byte_in.result (omega (arith, c.loop-place.invariant.long, c.loop-place-test.true)) c.byte_in.ensures c.loop-place.invariant.copied;
}

pub returns : goal.returns
returns c = c.read_header.ensures ∙ header_same _ _ (λ k lt. c.loop-place.invariant.copied k (omega (arith, lt)))
