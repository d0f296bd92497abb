-- Steps in turn: the worlds that they leave and what they tell, and what each of them keeps.
use Rattle.std.proofs.Common.{Bool, List, [], ap, append_assoc, refl, sym, true, ◌++◌, ◌∙◌, ◌∷◌, ◌≡◌}
use Rattle.lpc_base.specs.Rows.{every}
use Rattle.lpc_base.proofs.Bools.{first-true, second-true}
use Rattle.lpc_model.specs.World.{World}
use Rattle.lpc_model.specs.Basics.{Basic, basic, entries_of, told, world_after}

pub after-append : (w : World) (bs cs : List Basic) → world_after w (bs ++ cs) ≡ world_after (world_after w bs) cs
after-append w [] cs = refl
after-append w (b ∷ bs) cs = after-append (basic w b) bs cs

pub entries-append : (bs cs : List Basic) → entries_of (bs ++ cs) ≡ entries_of bs ++ entries_of cs
entries-append [] cs = refl
entries-append (b ∷ bs) cs = ap (λ es. told b ++ es) (entries-append bs cs) ∙ sym (append_assoc (told b) (entries_of bs) (entries_of cs))

-- what each step keeps that passes a test, steps keep that all pass it
pub steps-keep : (p : Basic → Bool) (Q : World → Type 0) → ((w : World) (b : Basic) → p b ≡ true → Q w → Q (basic w b)) → (w : World) (bs : List Basic) → every p bs ≡ true → Q w → Q (world_after w bs)
steps-keep p Q keeps w [] all q = q
steps-keep p Q keeps w (b ∷ bs) all q = steps-keep p Q keeps (basic w b) bs (second-true (p b) (every p bs) all) (keeps w b (first-true (p b) (every p bs) all) q)
