-- The law on two scripts of the run whose rows never go.
use Rattle.std.proofs.Common.{◌≡◌, ℕ, ◌≤◌, [], Bool, true, refl, sym, subst, arith}
use Rattle.lpc_model.specs.World.{Birth, Unknown, World, no_rows}
use Rattle.lpc_model.specs.Grammar.{has_ids}
use Rattle.lpc_model.specs.Circle.{Group}
use Rattle.lpc_isolation.proofs.Gone.Bare.{BareIsolation}
use Rattle.lpc_isolation.proofs.Gone.Born.{born_none}
use Rattle.lpc_isolation.proofs.Plays.Behind.{StoodAll}
use Rattle.lpc_isolation.proofs.Plays.Keeps.{keeps-line}
use Rattle.lpc_isolation.proofs.Plays.Play.{Keeps, Played, isolation}
use Rattle.lpc_isolation.proofs.Plays.Settles.{settler}
use Rattle.lpc_isolation.proofs.Plays.Stands.{State, Stood}
use Rattle.lpc_isolation.proofs.Rows.Firm.{firm_none}
use Rattle.lpc_isolation.proofs.Rows.Ids.{script-says}
use Rattle.lpc_isolation.proofs.Views.View.{view}

keeps-all : (m : Group) (c : ℕ) (outer : Birth → Bool) → m c ≡ true → Keeps (settler m c) (StoodAll m c outer) has_ids m c outer
keeps-all m c outer c_in w s line all fine next views after ok apart fits =
    from (view m w) (sym all.stood.seen)
    (keeps-line m c outer w s.memo s.bytes line (record {
      c_in = c_in;
      all = record {
        stood = record { seen = refl; firm = all.stood.firm; kept = all.stood.kept; known = all.stood.known; right = all.stood.right; raisers = all.stood.raisers };
        agree = all.agree;
        shown = all.shown;
        born = all.born;
        housed = all.housed;
      };
      fine = fine;
      next = next;
      views = views;
      after = after;
      ok = ok;
      apart = apart;
      fits = fits;
    }))
  where
    from : (v : World) → v ≡ s.seen → Played (settler m c) (StoodAll m c outer) m c w (record { seen = v; memo = s.memo; bytes = s.bytes }) line → Played (settler m c) (StoodAll m c outer) m c w s line
    from v same p = subst (λ v. Played (settler m c) (StoodAll m c outer) m c w (record { seen = v; memo = s.memo; bytes = s.bytes }) line) same p

none-once : (tid : ℕ) → 0 ≤ 1
none-once tid = omega arith

-- before the first line
-- what is seen of no rows
abbrev none_seen : State
none_seen = record { seen = record no_rows { contents = Unknown }; memo = []; bytes = no_rows.contents }

stood_none : (m : Group) (c : ℕ) → Stood m c no_rows none_seen
stood_none m c = record {
  seen = refl;
  firm = firm_none;
  kept = record {
    fair = record { tables = refl; ports = refl; messages = refl; waits = refl; threads = refl; senders = refl; creators = refl; registrations = refl; processes = refl; offers = refl; lives = refl; views = refl; raised = refl; hearers = refl };
    once = none-once;
    names = λ path. omega arith;
    paths = refl;
    numbered = refl;
    asked = record { sorts = refl; own = refl; one = none-once; marked = refl };
  };
  known = refl;
  right = λ test v at. refl;
  raisers = refl;
}

pub bare-isolation : BareIsolation
bare-isolation = isolation (λ m c. settler m c) (λ m c outer. StoodAll m c outer) none_seen has_ids script-says (λ m c outer c_in. keeps-all m c outer c_in)
    (λ m c outer. record { stood = stood_none m c; agree = (refl, refl, λ b inside off. refl); shown = record { views = refl; offers = refl }; born = born_none; housed = refl })
