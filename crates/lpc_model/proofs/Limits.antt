-- Each limit from both sides.
use Rattle.std.proofs.Common.{◌≡◌, ℕ, ◌+◌, ◌<◌, ◌≤◌, Bool, true, false, length, refl, arith}
use Rattle.std.specs.Prelude.{◌&&◌, nat_le, nat_lt, not, Ok, Err}
use Rattle.std.proofs.lemmas.Bool.Decides.{nat_tests}
use Rattle.std.proofs.lemmas.Bool.{le-leb, lt-ltb}
use Rattle.lpc_base.specs.declared.status.Status.{Status}
use Rattle.lpc_base.specs.declared.status.TheConstants.{PORT_MESSAGE_TOO_LONG, QUOTA_EXCEEDED}
use Rattle.lpc_message.specs.Layout.{header_of}
use Rattle.lpc_model.specs.Found.{datagrams, live_count, views_of}
use Rattle.lpc_model.specs.Memory.{section_load}
use Rattle.lpc_model.specs.Message.{message_test}
use Rattle.lpc_model.specs.Refusal.{refuse_if}
use Rattle.lpc_model.specs.Tests.{handle_load}
use Rattle.lpc_model.specs.Creation.{live_children}
use Rattle.lpc_model.specs.Limits.{LimitsChildren, LimitsDatagrams, LimitsHandles, LimitsInfo, LimitsMessages, LimitsRegistrations, LimitsSections, LimitsThreads, LimitsTwoHandles, LimitsViews}

passes : (b : Bool) (s : Status) → b ≡ false → refuse_if b s ≡ Ok tt
passes b s is = rw is refl

refuses : (b : Bool) (s : Status) → b ≡ true → refuse_if b s ≡ Err s
refuses b s is = rw is refl

-- the tests on numbers
past-off : (limit n : ℕ) → n ≤ limit → nat_lt limit n ≡ false
past-off limit n is = grind (arith, nat_tests)

at-off : (limit n : ℕ) → n < limit → nat_le limit n ≡ false
at-off limit n is = grind (arith, nat_tests)

pub limits_handles : LimitsHandles
limits_handles w pid = record {
  below = λ few. passes _ QUOTA_EXCEEDED (past-off 256 (handle_load w pid + 1) (omega (arith, few)));
  reached = λ many. refuses _ QUOTA_EXCEEDED (lt-ltb 256 (handle_load w pid + 1) (omega (arith, many)));
}

pub limits_two_handles : LimitsTwoHandles
limits_two_handles w pid = record {
  below = λ few. passes _ QUOTA_EXCEEDED (past-off 256 (handle_load w pid + 2) (omega (arith, few)));
  reached = λ many. refuses _ QUOTA_EXCEEDED (lt-ltb 256 (handle_load w pid + 2) (omega (arith, many)));
}

pub limits_children : LimitsChildren
limits_children w pid = record {
  below = λ few. passes _ QUOTA_EXCEEDED (at-off 64 (live_children w pid) few);
  reached = λ many. refuses _ QUOTA_EXCEEDED (le-leb 64 (live_children w pid) many);
}

pub limits_threads : LimitsThreads
limits_threads w pid = record {
  below = λ few. passes _ QUOTA_EXCEEDED (at-off 64 (live_count w pid) few);
  reached = λ many. refuses _ QUOTA_EXCEEDED (le-leb 64 (live_count w pid) many);
}

pub limits_datagrams : LimitsDatagrams
limits_datagrams w port = record {
  below = λ few. passes _ QUOTA_EXCEEDED (at-off 32 (datagrams w port.birth) few);
  reached = λ many. refuses _ QUOTA_EXCEEDED (le-leb 32 (datagrams w port.birth) many);
}

new-off : (r c : Bool) → c ≡ false → (not r && c) ≡ false
new-off r c off = grind arith

new-on : (r c : Bool) → r ≡ false → c ≡ true → (not r && c) ≡ true
new-on r c off is = grind arith

pub limits_registrations : LimitsRegistrations
limits_registrations by port off = record {
  below = λ few. passes _ QUOTA_EXCEEDED (new-off _ _ (at-off 16 (length by.registrations) few));
  reached = λ many. refuses _ QUOTA_EXCEEDED (new-on _ _ off (le-leb 16 (length by.registrations) many));
}

pub limits_views : LimitsViews
limits_views w pid = record {
  below = λ few. passes _ QUOTA_EXCEEDED (at-off 128 (length (views_of w pid)) few);
  reached = λ many. refuses _ QUOTA_EXCEEDED (le-leb 128 (length (views_of w pid)) many);
}

pub limits_sections : LimitsSections
limits_sections w pid size = record {
  below = λ few. passes _ QUOTA_EXCEEDED (past-off 4194304 (section_load w pid + size) (omega (arith, few)));
  reached = λ many. refuses _ QUOTA_EXCEEDED (lt-ltb 4194304 (section_load w pid + size) (omega (arith, many)));
}

pub limits_messages : LimitsMessages
unfolding message_test
limits_messages bytes lawful = record {
  within = λ few. rw (lawful, past-off 256 (header_of bytes).message_size few) refl;
  beyond = λ many. rw (lawful, lt-ltb 256 (header_of bytes).message_size many) refl;
}

pub limits_info : LimitsInfo
limits_info bytes = record {
  within = λ few. passes _ PORT_MESSAGE_TOO_LONG (past-off 256 (24 + length bytes) (omega (arith, few)));
  beyond = λ many. refuses _ PORT_MESSAGE_TOO_LONG (lt-ltb 256 (24 + length bytes) (omega (arith, many)));
}
