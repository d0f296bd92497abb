use Rattle.lpc_slots.specs.Table.{listed}
use Rattle.lpc_tokens.specs.declared.token_row.TokenRow.{TokenRow}
use Rattle.lpc_snapshot.proofs.Places.{its_key, its_name}
use Rattle.lpc_snapshot.proofs.tokens.token_at.Goals as goal

pub returns-clause-stands : goal.returns-clause-stands
returns-clause-stands c = rw c.tokens.ensures.births (its_key (λ (t : TokenRow). t.birth) (listed c.tokens.result.now) (rw c.tokens.ensures.births at c.tokens.ensures.apart) c.args.place _ c.row.ensures)

pub returns-clause-name : goal.returns-clause-name
returns-clause-name c = rw c.tokens.ensures.births (its_name (λ (t : TokenRow). t.birth) (listed c.tokens.result.now) (rw c.tokens.ensures.births at c.tokens.ensures.apart) c.args.place _ c.row.ensures)
