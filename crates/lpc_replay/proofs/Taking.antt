-- What is taken of the pieces that are read, one after the other.
use Rattle.std.proofs.Common.{◌≡◌, ℕ, ◌+◌, ◌-◌, ◌≤◌, List, [], ◌++◌, length, take, drop, refl, sym, ap, ◌∙◌, arith, append_assoc}
use Rattle.std.specs.Prelude.{Option}
use Rattle.std.proofs.lemmas.List.{append-nil, drop-drop, drop-take, length-take}
use Rattle.lpc_script.specs.Feeding.{IsParted}
use Rattle.lpc_script.specs.declared.line_buffer.Fed.TheVariants as fed
use Rattle.lpc_replay.specs.Reading.{Advances, Fills, Reads}
use Rattle.lpc_replay.specs.declared.reading.NextLine.TheVariants as next
use Rattle.lpc_replay.proofs.Tells.{told_then}

-- the bytes of a piece and of those read behind it are a line, and the rest of the last piece
pub record HasTaken (left left' : Option (List ℕ)) (piece line rest : List ℕ) : Type 0 where
  pub read : List ℕ
  pub told : Reads left left' read
  pub parts : piece ++ read ≡ line ++ rest

-- a further piece is read
pub taken_more : (left left1 left2 : Option (List ℕ)) (piece line rest now : List ℕ) → HasTaken left left1 piece line rest → Fills left1 left2 rest now → HasTaken left left2 piece line now
taken_more left left1 left2 piece line rest now h f = record {
  read = h.read ++ f.read;
  told = told_then left left1 left2 (λ old new. old ≡ h.read ++ new) (λ old new. old ≡ f.read ++ new) (λ old new. old ≡ (h.read ++ f.read) ++ new)
      (λ x y z s t. s ∙ (ap (λ w. h.read ++ w) t ∙ sym (append_assoc h.read f.read z))) h.told f.told;
  parts = sym (append_assoc piece h.read f.read) ∙ (ap (λ w. w ++ f.read) h.parts ∙ (append_assoc line rest f.read ∙ ap (λ w. line ++ w) (sym f.parts)));
}

-- what the line comes to
pub taken_line : (left left' : Option (List ℕ)) (piece line rest now : List ℕ) (count : ℕ) → HasTaken left left' piece line rest → IsParted fed.Line (line ++ rest) now (drop count rest) → Advances left left' next.Whole piece now (drop count rest)
taken_line left left' piece line rest now count h parted = record { read = h.read; told = h.told; comes = h.parts ∙ parted }

pub taken_long : (left left' : Option (List ℕ)) (piece line rest now : List ℕ) (count : ℕ) → HasTaken left left' piece line rest → IsParted fed.Long (line ++ rest) now (drop count rest) → Advances left left' next.TooLong piece now (drop count rest)
taken_long left left' piece line rest now count h parted = record { read = h.read; told = h.told; comes = record { byte = parted.byte; other = parted.other; parts = h.parts ∙ parted.parts; full = parted.full } }

pub taken_on : (left left' : Option (List ℕ)) (piece line rest now : List ℕ) (count : ℕ) → HasTaken left left' piece line rest → IsParted fed.More (line ++ rest) now (drop count rest) → HasTaken left left' piece now (drop count rest)
taken_on left left' piece line rest now count h parted = record {
  read = h.read;
  told = h.told;
  parts = h.parts ∙ (parted.0 ∙ (sym (append-nil now) ∙ ap (λ w. now ++ w) (sym parted.1)));
}

-- what is left of a piece
pub passed : (bytes : List ℕ) (start end count : ℕ) → count ≤ length (take (end - start) (drop start bytes)) → take (end - (start + count)) (drop (start + count) bytes) ≡ drop count (take (end - start) (drop start bytes))
passed bytes start end count within =
    let size = length-take (end - start) (drop start bytes) in
    let m = end - (start + count) in
    let all : count + m ≡ end - start = omega arith in
    let cut = rw all at (drop-take count m (drop start bytes)) in
    sym (cut ∙ ap (λ rest. take m rest) (drop-drop count start bytes))

pub piece_none : (bytes : List ℕ) (start end : ℕ) → end ≤ start → take (end - start) (drop start bytes) ≡ []
piece_none bytes start end past = let none : end - start ≡ 0 = omega arith in rw none refl

pub piece_all : (bytes : List ℕ) (n : ℕ) → take (n - 0) (drop 0 bytes) ≡ [] ++ take n bytes
piece_all bytes n = let all : n - 0 ≡ n = omega arith in rw all refl
