use Rattle.std.proofs.Common.{ℕ, ◌≡◌, List, ◌++◌, Option, take, drop, sym, ap, ◌∙◌, take-append-drop}
use Rattle.std.specs.Io.KnownBytes.{Appends, Keeps, append_known}
use Rattle.std.proofs.KnownBytes.{append_known-moved}
use Rattle.ntlpc.proofs.edge.Output.flush.Goals as goal

-- what went to the writer and what is still kept are together what they were
moved : (old new : Option (List ℕ)) (count : ℕ) (text lent rest : List ℕ) → lent ≡ text → rest ≡ drop count text
    → Appends old new (take count lent) → Keeps (append_known old text) (append_known new rest)
moved old new count text lent rest same left went =
    let front : take count lent ≡ take count text = ap (take count) same in
    let whole : text ≡ take count lent ++ rest =
    sym (take-append-drop count text) ∙ ap (λ l. l ++ drop count text) (sym front) ∙ ap (λ l. take count lent ++ l) (sym left) in
    append_known-moved old new (take count lent) rest text went whole

pub returns-clause-writer : goal.returns-clause-writer
returns-clause-writer g c =
    rw (← c.self.view_is) (moved _ _ c.write_all-count.result _ c.as_slice.result.now _ c.as_slice.ensures.value c.remove_front.ensures.items c.write_all-count.ensures.writer)
