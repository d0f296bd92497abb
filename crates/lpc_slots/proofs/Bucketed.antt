-- What a change of links does to all chains of rows by a number.
use Rattle.std.proofs.Common.{◌≡◌, ◌≢◌, ◌<◌, ℕ, true, false, refl, sym, ap, ◌∙◌, subst, inl, inr, List, [], ◌∷◌, ◌++◌, Option, Some, None, option_to_list, eq-eqb, length, set, slice_get, get_or}
use Rattle.std.specs.Prelude.{◌%◌}
use Rattle.std.proofs.lemmas.Bool.{cases_Bool, eqb-true}
use Rattle.std.proofs.lemmas.List.{length-set}
use Rattle.std.proofs.lemmas.Option.{slice_get-get_or}
use Rattle.lpc_base.specs.Rows.{without}
use Rattle.lpc_slots.specs.declared.Key.{Key}
use Rattle.lpc_slots.specs.declared.chain.Links.{Links}
use Rattle.lpc_slots.specs.declared.chain.Chain.{Chain}
use Rattle.lpc_slots.specs.Table.{Table, at, at_key, keys_of}
use Rattle.lpc_slots.specs.Chain.{IsAway, IsDistinct, Relinks, StandsFor, first_or, last_or}
use Rattle.lpc_slots.proofs.Frames.{EachAway, each_cons, stands_apart, stands_across, stands_beside}
use Rattle.lpc_slots.specs.Buckets.{AreEmpty, IsPlaced, RelinksSome, Stand, keys_in, leaves}
use Rattle.lpc_slots.proofs.Lists.{away_by, disjoint, ends_last, ends_next, gone_off, gone_on, push_off, push_on, split_by, written}

-- what is read at an index within a list stands there
pub reads : {A : Type 0} (xs : List A) (i : ℕ) (x : A) → i < length xs → x ≡ get_or xs i x → slice_get xs i ≡ Some x
reads xs i x within read = slice_get-get_or xs i x within ∙ ap Some (sym read)

-- a number leaves one remainder alone
own : (many number : ℕ) (key : Key) → leaves many (number % many) (key, number) ≡ true
own many number key = eq-eqb (number % many) (number % many) refl

differs : (many one two : ℕ) → one ≢ two → (row : Key × ℕ) → leaves many one row ≡ true → leaves many two row ≡ false
differs many one two apart row is =
    elim (cases_Bool (leaves many two row)) [
      | inl too ↦ absurd (apart (sym (eqb-true (row.1 % many) one is) ∙ eqb-true (row.1 % many) two too))
      | inr not ↦ not
    ]

module _ {T : Type 0} {LIST : ℕ} (links_of : T → Links) (with_links : T → Links → T) where
  module _ (old new : Table T) (chains : List (Chain LIST)) (place number : ℕ) (key : Key) (is : place ≡ number % length chains) (was fresh : Chain LIST) (here : slice_get chains place ≡ Some was) (rows : List (Key × ℕ)) (stand : Stand links_of old chains rows) where
    abbrev many : ℕ
    many = length chains

    placed : leaves many place (key, number) ≡ true
    placed = ap (λ p. leaves many p (key, number)) is ∙ own many number key

    -- a row goes to the end of the chain of its number
    pub push_stand : ((keys : List Key) → StandsFor links_of old was keys → IsAway (Some key) keys → StandsFor links_of new fresh (keys ++ key ∷ [])) → Relinks with_links (key ∷ option_to_list was.last) old new → IsDistinct (keys_of rows) → IsAway (Some key) (keys_of rows) → Stand links_of new (set chains place fresh) (rows ++ (key, number) ∷ [])
    push_stand chain links distinct away rest other found =
        let mine : StandsFor links_of old was (keys_in many place rows) = stand place was here in
        rw (length-set chains place fresh)
        (elim (written chains place fresh rest other found) [
          | inl same ↦
              let now : keys_in many rest (rows ++ (key, number) ∷ []) ≡ keys_in many place rows ++ key ∷ [] = ap (λ r. keys_in many r (rows ++ (key, number) ∷ [])) same.0 ∙ push_on (leaves many place) rows (key, number) placed in
              rw (same.1, now) (chain (keys_in many place rows) mine (away_by (Some key) (leaves many place) rows away))
          | inr there ↦
              let theirs = keys_in many rest rows in
              let apart = differs many place rest (λ e. there.0 (sym e)) in
              let off : EachAway (keys_in many place rows) theirs = disjoint (leaves many place) (leaves many rest) apart rows distinct in
              let ends : EachAway theirs (option_to_list was.last) = subst (λ (o : Option Key). EachAway theirs (option_to_list o)) (sym mine.last) (ends_last (keys_in many place rows) theirs off) in
              let touched : EachAway theirs (key ∷ option_to_list was.last) = each_cons theirs key _ (away_by (Some key) (leaves many rest) rows away) ends in
              rw (push_off (leaves many rest) rows (key, number) (apart (key, number) placed))
              (stands_apart links_of with_links _ old new other theirs touched links (stand rest other there.1))
        ])

    split : IsPlaced key number rows → (front : List Key) × (back : List Key) × (keys_in many place rows ≡ front ++ key ∷ back)
    split stands = split_by (leaves many place) key number rows stands.stands placed

    -- where the row stands on the chain of its number
    pub stands_on : IsPlaced key number rows → (front : List Key) × (back : List Key) × StandsFor links_of old was (front ++ key ∷ back)
    stands_on stands =
        let at = split stands in
        (at.0, at.1, subst (λ (ks : List Key). StandsFor links_of old was ks) at.2 (stand place was here))

    -- a row leaves the chain of its number
    pub unlink_stand : ((front back : List Key) → StandsFor links_of old was (front ++ key ∷ back) → StandsFor links_of new fresh (front ++ back)) → ((front back : List Key) → StandsFor links_of old was (front ++ key ∷ back) → Relinks with_links (option_to_list (last_or None front) ++ option_to_list (first_or None back)) old new) → IsPlaced key number rows → Stand links_of new (set chains place fresh) (without (at_key key) rows)
    unfolding split stands_on
    unlink_stand chain links stands rest other found =
        let at = split stands in
        let mine : StandsFor links_of old was (at.0 ++ key ∷ at.1) = (stands_on stands).2 in
        rw (length-set chains place fresh)
        (elim (written chains place fresh rest other found) [
          | inl same ↦
              let now : keys_in many rest (without (at_key key) rows) ≡ at.0 ++ at.1 = ap (λ r. keys_in many r (without (at_key key) rows)) same.0 ∙ gone_on (leaves many place) key rows at.0 at.1 stands.distinct at.2 in
              rw (same.1, now) (chain at.0 at.1 mine)
          | inr there ↦
              let theirs = keys_in many rest rows in
              let apart = differs many place rest (λ e. there.0 (sym e)) in
              let off : EachAway (at.0 ++ key ∷ at.1) theirs = subst (λ (ks : List Key). EachAway ks theirs) at.2 (disjoint (leaves many place) (leaves many rest) apart rows stands.distinct) in
              rw (gone_off (leaves many place) (leaves many rest) key rows at.0 at.1 stands.distinct at.2 apart)
              (stands_apart links_of with_links _ old new other theirs (ends_next at.0 key at.1 theirs off) (links at.0 at.1 mine) (stand rest other there.1))
        ])

  -- links of other chains change
  pub across_stand : (old new : Table T) (chains : List (Chain LIST)) (rows : List (Key × ℕ)) (to : T → Links → T) → ((value : T) (links : Links) → links_of (to value links) ≡ links_of value) → RelinksSome to old new → Stand links_of old chains rows → Stand links_of new chains rows
  across_stand old new chains rows to keeps links stand rest chain found =
      stands_across links_of to links.0 old new chain (keys_in (length chains) rest rows) keeps links.1 (stand rest chain found)

  -- another row of the table is made or goes
  pub beside_stand : (old new : Table T) (chains : List (Chain LIST)) (rows : List (Key × ℕ)) (key : Key) → ((q : Key) → q ≢ key → at new q ≡ at old q) → IsAway (Some key) (keys_of rows) → Stand links_of old chains rows → Stand links_of new chains rows
  beside_stand old new chains rows key same away stand rest chain found =
      stands_beside links_of old new chain key (keys_in (length chains) rest rows) same (away_by (Some key) (leaves (length chains) rest) rows away) (stand rest chain found)

  pub across_chain : (old new : Table T) (chain : Chain LIST) (keys : List Key) (to : T → Links → T) → ((value : T) (links : Links) → links_of (to value links) ≡ links_of value) → RelinksSome to old new → StandsFor links_of old chain keys → StandsFor links_of new chain keys
  across_chain old new chain keys to keeps links stand = stands_across links_of to links.0 old new chain keys keeps links.1 stand

  -- a chain that is empty stands for no keys, and chains that are empty for no rows
  pub empty_chain : (s : Table T) (chain : Chain LIST) → chain.first ≡ None → chain.last ≡ None → StandsFor links_of s chain []
  empty_chain s chain first last = record { linked = tt; distinct = tt; first = first; last = last }

  pub empty_stand : (s : Table T) (chains : List (Chain LIST)) → AreEmpty chains → Stand links_of s chains []
  empty_stand s chains empty rest chain found = empty_chain s chain (empty rest chain found).0 (empty rest chain found).1
