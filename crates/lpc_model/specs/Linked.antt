-- Linked ports: what a port that goes still names is at most a connection port, which names nothing.
use Rattle.std.specs.Prelude.{◌≡◌, ℕ, ◌≤◌, ◌&&◌, ◌||◌, not, Bool, true, List, Option, is_none, is_some}
use Rattle.lpc_base.specs.Rows.{count, every, passes}
use Rattle.lpc_model.specs.World.{Birth, Node, PortRow, WaitRow, World}
use Rattle.lpc_names.specs.Walk.{LinkTo, Stands}
use Rattle.lpc_names.specs.declared.names.Found.TheVariants.{Directory, Item}
use Rattle.lpc_model.specs.Found.{is_offered, is_port, is_the, pair_of, port_name, port_row, process_name, section_name, thread_name, token_name}
use Rattle.std.specs.List.{AllByRecursion}
use Rattle.lpc_model.specs.Sweep.{is_unheld}
use Rattle.lpc_model.specs.Run.{run_of}

-- a port has neither another end nor a connection port
abbrev pub names_nothing : PortRow → Bool
names_nothing p = is_none p.pair && is_none p.connection

-- an optional value passes, where there is one
abbrev pub passes_or_none : {A : Type 0} → Option A → (A → Bool) → Bool
passes_or_none o test = is_none o || passes o test

-- a port's other end stands, and has the port as its own other end
abbrev pub is_mutual : World → PortRow → Bool
is_mutual w p = passes_or_none p.pair (λ q. is_the p.birth (pair_of w q))

-- a port that stands under a birth names nothing
abbrev pub is_root_port : World → Birth → Bool
is_root_port w c = passes (port_row w c) names_nothing

-- a port's connection port stands, and names nothing
abbrev pub is_rooted : World → PortRow → Bool
is_rooted w p = passes_or_none p.connection (is_root_port w)

-- the client port of a connect that isn't accepted: it stands, has a connection port, and no other end
abbrev pub is_unjoined : PortRow → Bool
is_unjoined p = is_none p.pair && is_some p.connection

-- a connect that isn't accepted is to a port that names nothing, and its client port isn't joined yet
abbrev pub is_lone_offer : World → WaitRow → Bool
is_lone_offer w x = not (is_offered x) || (is_root_port w x.queue && passes (port_row w x.port) is_unjoined)

-- a name leads to a port that names nothing, where it leads to a port
abbrev pub leads_to_root : World → Node Birth → Bool
leads_to_root w (LinkTo target) = true
leads_to_root w (Stands Directory) = true
leads_to_root w (Stands (Item port)) = is_root_port w port

-- No two ports have one birth; other ends and connection ports stand, connects that wait for an answer are as they are
-- above, and names lead to ports that name nothing.
pub record IsLinked (w : World) : Type 0 where
  pub births : (b : Birth) → count (is_port b) w.ports ≤ 1
  pub pairs : every (is_mutual w) w.ports ≡ true
  pub rooted : every (is_rooted w) w.ports ≡ true
  pub offers : every (is_lone_offer w) w.waits ≡ true
  pub targets : every (λ b. leads_to_root w b.1) w.bindings ≡ true

-- some row counts for each port
abbrev pub HasHeldPorts : World → Type 0
HasHeldPorts w = every (λ p. not (is_unheld w (port_name p.birth))) w.ports ≡ true

-- some row counts for each thread and each process
pub record AreLivesHeld (w : World) : Type 0 where
  pub threads : every (λ t. not (is_unheld w (thread_name t.birth))) w.threads ≡ true
  pub processes : every (λ p. not (is_unheld w (process_name p.birth))) w.processes ≡ true

-- some row counts for each section
abbrev pub HasHeldSections : World → Type 0
HasHeldSections w = every (λ s. not (is_unheld w (section_name s.birth))) w.sections ≡ true

-- some row counts for each token object
abbrev pub HasHeldTokens : World → Type 0
HasHeldTokens w = every (λ t. not (is_unheld w (token_name t.birth))) w.tokens ≡ true

-- some row counts for each object that stands
pub record HasHeldRows (w : World) : Type 0 where
  pub ports : HasHeldPorts w
  pub lives : AreLivesHeld w
  pub sections : HasHeldSections w
  pub tokens : HasHeldTokens w

-- behind each line of a script some row counts for each object that stands
abbrev pub RunHoldsRows : List ℕ → Type 0
RunHoldsRows bytes = AllByRecursion (λ s. HasHeldRows s.world) (run_of bytes)
