-- The step of each line leaves sound waits, no marked event, and no live process that is to end.
use Rattle.std.proofs.Common.{◌≡◌, ℕ, List, [], ◌∷◌, Bool, true, false, not, refl, sym, subst, arith}
use Rattle.std.specs.Prelude.{◌&&◌, is_some}
use Rattle.lpc_base.specs.Rows.{has, without}
use Rattle.lpc_base.proofs.RowWords.{every-more, every-without}
use Rattle.lpc_model.specs.declared.entry.ObjectKind.TheVariants as kind
use Rattle.lpc_model.specs.World.{Birth, ObjectKind, ThreadRow, World}
use Rattle.lpc_model.specs.Found.{is_live, lives_in, same_birth}
use Rattle.lpc_model.specs.Basics.{Basic, Frees, basic, world_after}
use Rattle.lpc_model.specs.Lines.{ScriptLine}
use Rattle.lpc_model.specs.Machine.{bare_steps, own_steps, step}
use Rattle.lpc_model.specs.Settle.{HasMarkedEvents, IsSettled, is_doomed, settle}
use Rattle.lpc_model.specs.SingleClosings.{HasSingleClosings}
use Rattle.lpc_model.specs.SoundWaits.{IsSoundWorld}
use Rattle.lpc_model.specs.Standing.{NamesWhatStands}
use Rattle.lpc_model.specs.Sweep.{sweep}
use Rattle.lpc_model.proofs.Steps.Sweep.{stepped, sweep_every}
use Rattle.lpc_model.proofs.Sound.MarkedLines.{line-marked}
use Rattle.lpc_model.proofs.Settling.Settled.{IsReady, settle-ready, settles}
use Rattle.lpc_model.proofs.Closings.SingleLines.{untold_line}
use Rattle.lpc_model.proofs.Sound.Frees.{swept-sound}
use Rattle.lpc_model.proofs.Sound.Lines.{line-sound}
use Rattle.lpc_model.proofs.Steps.InTurn.{after-append, steps-keep}

-- Rows that go
abbrev is_freeing : Basic → Bool
is_freeing (Frees o) = true
is_freeing b = false

fewer-live : (n : ℕ) (b : Birth) (ts : List ThreadRow) → has (lives_in n) (without (λ t. same_birth t.birth b) ts) ≡ true → has (lives_in n) ts ≡ true
fewer-live n b [] is = is
fewer-live n b (t ∷ ts) is = grind (arith, fewer-live n b ts)

still-undoomed : (d l m : Bool) → (m ≡ true → l ≡ true) → not (d && l) ≡ true → not (d && m) ≡ true
still-undoomed d l m more is = grind (arith, more)

freed-settled : (w : World) (b : Basic) → is_freeing b ≡ true → IsSettled w → IsSettled (basic w b)
freed-settled w (Frees o) is s = at o.kind
  where
    at : (k : ObjectKind) → IsSettled (basic w (Frees (record { kind = k; birth = o.birth })))
    at kind.Port = record { marks = s.marks; doomed = s.doomed }
    at kind.Section = record { marks = s.marks; doomed = s.doomed }
    at kind.Token = record { marks = s.marks; doomed = s.doomed }
    at kind.Process = record { marks = s.marks; doomed = every-without (λ p. not (is_doomed w p)) (λ p. same_birth p.birth o.birth) w.processes s.doomed }
    at kind.Thread =
        let v = basic w (Frees (record { kind = kind.Thread; birth = o.birth })) in
        record { marks = s.marks; doomed = every-more (λ p. not (is_doomed w p)) (λ p. not (is_doomed v p)) (λ p one. still-undoomed (is_some p.doom) (is_live w p.number) (is_live v p.number) (fewer-live p.number o.birth w.threads) one) w.processes s.doomed }
freed-settled w b is s = absurd (cc)

swept-settled : (v : World) → IsSettled v → IsSettled (world_after v (sweep v))
swept-settled v s = steps-keep is_freeing IsSettled freed-settled v (sweep v) (sweep_every is_freeing (λ _. refl) v) s

-- Lines
pub ready-line : (w : World) (line : ScriptLine) → IsSoundWorld w → NamesWhatStands w → HasSingleClosings w → w.marks ≡ [] → IsReady (world_after w (own_steps line w))
ready-line w line s n u none =
    let shut = untold_line w line s n u in
    let marked : HasMarkedEvents w = rw none refl in
    record {
      safe = record { sound = line-sound w line s u.connects; shut = shut.connects };
      marked = line-marked w line (record { sound = s; shut = u.connects }) marked;
    }

-- behind the step of a line waits are sound, no event is marked, and no live process is to end
pub settled_step : (w : World) (line : ScriptLine) → IsSoundWorld w → NamesWhatStands w → HasSingleClosings w → w.marks ≡ [] → IsSoundWorld (step w line).world × IsSettled (step w line).world
unfolding bare_steps
settled_step w line s n u none =
    let v = world_after w (own_steps line w) in
    let ready = ready-line w line s n u none in
    let same = after-append w (own_steps line w) (settle v) in
    let left = settle-ready v ready in (
      stepped IsSoundWorld w line swept-sound (subst IsSoundWorld (sym same) left.safe.sound),
      stepped IsSettled w line swept-settled (subst IsSettled (sym same) (settles v ready)),
    )
