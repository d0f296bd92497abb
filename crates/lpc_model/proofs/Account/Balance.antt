-- Steps in balance: of the messages that stand before them and those that they post, each stands behind them, or is shown as
-- received, or is lost.
use Rattle.std.proofs.Common.{◌≡◌, ◌∙◌, ℕ, ◌+◌, List, [], ◌∷◌, ◌++◌, Bool, true, false, not, ap, refl, sym, arith}
use Rattle.std.specs.Prelude.{◌&&◌, ◌==◌}
use Rattle.std.proofs.lemmas.Bool.{and_right}
use Rattle.lpc_base.specs.Rows.{count, every, which, without}
use Rattle.lpc_base.specs.declared.birth.Birth.{Birth}
use Rattle.lpc_base.proofs.RowWords.{count-append}
use Rattle.lpc_model.specs.declared.entry.CallName.{CallName}
use Rattle.lpc_model.specs.declared.entry.CallName.TheVariants.{NtListenPort, NtReplyWaitReceivePort}
use Rattle.lpc_model.specs.declared.entry.Entry.{Entry}
use Rattle.lpc_model.specs.declared.entry.Entry.TheVariants as entry
use Rattle.lpc_model.specs.declared.entry.Field.{Field}
use Rattle.lpc_model.specs.declared.entry.ObjectKind.{ObjectKind}
use Rattle.lpc_model.specs.declared.entry.ObjectKind.TheVariants as kind
use Rattle.lpc_model.specs.World.{World}
use Rattle.lpc_model.specs.Found.{is_own_of, is_queued}
use Rattle.lpc_model.specs.Basics.{Basic, Empties, Enters, Frees, Takes, TakesConnect, Tells, Wakes, Withdraws, basic, entries_of, freed, posted, posts_of, told, world_after}
use Rattle.lpc_model.specs.Lines.{ScriptLine}
use Rattle.lpc_model.proofs.Closings.Told.{posts-append}
use Rattle.lpc_model.proofs.Steps.InTurn.{after-append}
use Rattle.lpc_model.specs.Accounts.{Receipt, has_bytes, is_message, shows_message, is_received, has_receipt, loses, lost, standing, shows_context}

-- Counts of rows
count-parts : {X : Type 0} (p test : X → Bool) (xs : List X) → count p xs ≡ count p (without test xs) + count p (which test xs)
count-parts p test [] = refl
count-parts p test (x ∷ xs) = at (test x) refl (count-parts p test xs)
  where
    at : (b : Bool) → test x ≡ b → count p xs ≡ count p (without test xs) + count p (which test xs) → count p (x ∷ xs) ≡ count p (without test (x ∷ xs)) + count p (which test (x ∷ xs))
    at true is rest = grind (arith, is, rest)
    at false other rest = grind (arith, other, rest)

-- a receive shows two fields of which the second is a message, and a listen shows a message alone
abbrev pub is_receiving : CallName → Bool
is_receiving NtReplyWaitReceivePort = true
is_receiving call = false

abbrev pub is_listening : CallName → Bool
is_listening NtListenPort = true
is_listening call = false

abbrev pub may_show : CallName → List Field → Bool
may_show call (a ∷ []) = is_message a && is_listening call
may_show call (a ∷ b ∷ []) = is_message b && is_receiving call
may_show call fields = false

abbrev pub tells_message : Entry → Bool
tells_message (entry.Answer who call status fields) = may_show call fields
tells_message (entry.Wakes who call status fields) = may_show call fields
tells_message e = false

-- a step takes no message from a queue as a receive does, and tells of none
abbrev pub is_level : Basic → Bool
is_level (Takes queue) = false
is_level (TakesConnect queue) = false
is_level (Tells e) = not (tells_message e)
is_level (Wakes who call status fields) = not (may_show call fields)
is_level b = true

unshown : (s : Receipt) (call : CallName) (fields : List Field) → not (may_show call fields) ≡ true → shows_message s call fields ≡ false
unshown s NtListenPort [] is = refl
unshown s NtListenPort (a ∷ []) is = alone (is_message a) (s.context == 0) (has_bytes s.bytes a) is
  where
    alone : (m k c : Bool) → not (m && true) ≡ true → (k && (m && c)) ≡ false
    alone m k c is = grind arith
unshown s NtListenPort (a ∷ b ∷ fields) is = refl
unshown s NtReplyWaitReceivePort [] is = refl
unshown s NtReplyWaitReceivePort (a ∷ []) is = refl
unshown s NtReplyWaitReceivePort (a ∷ b ∷ []) is = behind (is_message b) (shows_context s.context a) (has_bytes s.bytes b) is
  where
    behind : (m x c : Bool) → not (m && true) ≡ true → (x && (m && c)) ≡ false
    behind m x c is = grind arith
unshown s NtReplyWaitReceivePort (a ∷ b ∷ c ∷ fields) is = refl
unshown s call fields is = refl

freed-messages : (w : World) (k : ObjectKind) (b : Birth) → (freed w k b).messages ≡ w.messages
freed-messages w kind.Port b = refl
freed-messages w kind.Section b = refl
freed-messages w kind.Token b = refl
freed-messages w kind.Process b = refl
freed-messages w kind.Thread b = refl

module _ (s : Receipt) (w : World) (line : ScriptLine) where
  abbrev pub received : List Entry → ℕ
  received es = count (is_received s w line) es

  abbrev pub posted_by : List Basic → ℕ
  posted_by bs = count (has_receipt s) (posts_of bs)

  -- the messages that some steps find and post stand behind them, are shown, or are lost
  abbrev pub AreBalanced : World → List Basic → Type 0
  AreBalanced v bs = standing s v + posted_by bs ≡ standing s (world_after v bs) + (received (entries_of bs) + lost s v bs)

  unread : (e : Entry) → not (tells_message e) ≡ true → is_received s w line e ≡ false
  unread (entry.Answer who call status fields) is = and_right _ _ (and_right _ _ (unshown s call fields is))
  unread (entry.Wakes who call status fields) is = and_right _ _ (and_right _ _ (unshown s call fields is))
  unread e is = refl

  pub none-read : (e : Entry) → not (tells_message e) ≡ true → received (e ∷ []) ≡ 0
  none-read e is = let off = unread e is in grind (arith, off)

  none-told : (b : Basic) → is_level b ≡ true → received (told b) ≡ 0
  none-told (Tells e) is = none-read e is
  none-told (Wakes who call status fields) is = none-read (entry.Wakes who call status fields) is
  none-told b is = refl

  -- one step
  level-step : (v : World) (b : Basic) → is_level b ≡ true → standing s v + count (has_receipt s) (posted b) ≡ standing s (basic v b) + loses s v b
  level-step v (Enters m) is = let sum = count-append (has_receipt s) v.messages (m ∷ []) in omega arith
  level-step v (Withdraws who) is = let parts = count-parts (has_receipt s) (is_own_of who) v.messages in omega arith
  level-step v (Empties queue) is = let parts = count-parts (has_receipt s) (is_queued queue) v.messages in omega arith
  level-step v (Frees o) is = ap (λ ms. count (has_receipt s) ms + 0) (sym (freed-messages v o.kind o.birth))
  level-step v (Takes queue) is = absurd (cc)
  level-step v (TakesConnect queue) is = absurd (cc)
  level-step v b is = refl

  -- one after the other
  pub entries-both : (xs ys : List Basic) → received (entries_of (xs ++ ys)) ≡ received (entries_of xs) + received (entries_of ys)
  entries-both [] ys = omega arith
  entries-both (x ∷ xs) ys =
      let all = count-append (is_received s w line) (told x) (entries_of (xs ++ ys)) in
      let first = count-append (is_received s w line) (told x) (entries_of xs) in
      let rest = entries-both xs ys in
      omega arith

  pub lost-both : (v : World) (xs ys : List Basic) → lost s v (xs ++ ys) ≡ lost s v xs + lost s (world_after v xs) ys
  lost-both v [] ys = omega arith
  lost-both v (x ∷ xs) ys = let rest = lost-both (basic v x) xs ys in omega arith

  pub both-balanced : (v : World) (xs ys : List Basic) → AreBalanced v xs → AreBalanced (world_after v xs) ys → AreBalanced v (xs ++ ys)
  both-balanced v xs ys one two =
      let posts : posted_by (xs ++ ys) ≡ posted_by xs + posted_by ys = ap (count (has_receipt s)) (posts-append xs ys) ∙ count-append (has_receipt s) (posts_of xs) (posts_of ys) in
      let entries = entries-both xs ys in
      let losses = lost-both v xs ys in
      let worlds : standing s (world_after v (xs ++ ys)) ≡ standing s (world_after (world_after v xs) ys) = ap (standing s) (after-append v xs ys) in
      omega (arith, one, two)

  pub level-balanced : (v : World) (bs : List Basic) → every is_level bs ≡ true → AreBalanced v bs
  level-balanced v [] all = omega arith
  level-balanced v (b ∷ bs) all =
      let here : is_level b ≡ true = grind arith in
      let later : every is_level bs ≡ true = grind arith in
      let one = level-step v b here in
      let told = none-told b here in
      let single : AreBalanced v (b ∷ []) = lone v b one told in
      both-balanced v (b ∷ []) bs single (level-balanced (basic v b) bs later)
    where
      lone : (v : World) (b : Basic) → standing s v + count (has_receipt s) (posted b) ≡ standing s (basic v b) + loses s v b → received (told b) ≡ 0 → AreBalanced v (b ∷ [])
      lone v b one none =
          let posts = count-append (has_receipt s) (posted b) [] in
          let entries = count-append (is_received s w line) (told b) [] in
          omega (arith, one, none)
