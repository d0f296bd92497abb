-- What a change of links does to the chains of all ports.
use Rattle.std.proofs.Common.{◌≡◌, ◌≢◌, ◌⊎◌, ℕ, refl, sym, ap, ◌∙◌, subst, inl, inr, List, [], ◌∷◌, ◌++◌, Option, Some, None, option_map, option_to_list}
use Rattle.lpc_base.specs.Rows.{without}
use Rattle.lpc_slots.specs.declared.Key.{Key}
use Rattle.lpc_slots.specs.declared.chain.Links.{Links}
use Rattle.lpc_slots.specs.declared.chain.Chain.{Chain}
use Rattle.lpc_slots.specs.Table.{Table, at, at_key, keys_of, with_value}
use Rattle.lpc_slots.specs.Chain.{IsAway, IsDistinct, IsRelinked, Relinks, StandsFor, first_or, last_or}
use Rattle.lpc_slots.proofs.Keys.{key_cases}
use Rattle.lpc_slots.proofs.Chains.{at_same, at_other}
use Rattle.lpc_slots.proofs.Frames.{EachAway, each_cons, stands_apart, stands_across, stands_beside}
use Rattle.lpc_ports.specs.declared.rows.PortRow.{PortRow}
use Rattle.lpc_ports.specs.declared.messages.Block.{Block}
use Rattle.lpc_ports.specs.Table.{QueuedMessage}
use Rattle.lpc_ports.specs.Layout.{ChangesLinks, IsPlaced, Stand, port_of}
use Rattle.lpc_ports.specs.Lent.{keys_by, queued_of}
use Rattle.lpc_ports.proofs.Named.{number_same}
use Rattle.lpc_ports.proofs.Lists.{away_by, disjoint, ends_last, ends_next, gone_off, gone_on, push_off, push_on, split_by}

-- the row of a port after a row was written
pub written : (ports : Table PortRow) (port q : Key) (fresh row : PortRow) → at (with_value ports port fresh) q ≡ Some row → ((q ≡ port) × (row ≡ fresh)) ⊎ ((q ≢ port) × (at ports q ≡ Some row))
written ports port q fresh row found =
    elim (key_cases q port) [
      | inl same ↦
          let both : Some row ≡ Some fresh = sym found ∙ ap (at (with_value ports port fresh)) same ∙ at_same ports port fresh in
          inl (same, (let e : row ≡ fresh = cc in e))
      | inr differs ↦ inr (differs, sym (at_other ports port fresh q (λ e. differs (let k : port ≡ q = cc in sym k))) ∙ found)
    ]

module _ {LIST : ℕ} (links_of : Block → Links) (with_links : Block → Links → Block) (chain_of : PortRow → Chain LIST) (owner : QueuedMessage → Key) where
  abbrev Stands : Table PortRow → Table Block → List (Key × QueuedMessage) → Type 0
  Stands = Stand links_of chain_of owner

  module _ (ports : Table PortRow) (old new : Table Block) (port key : Key) (messages : List (Key × QueuedMessage)) (stand : Stands ports old messages) where
    module _ (row fresh : PortRow) (there : at ports port ≡ Some row) where
      -- a message goes to the end of its port's chain
      pub push_stand : (value : QueuedMessage) → ((keys : List Key) → StandsFor links_of old (chain_of row) keys → IsAway (Some key) keys → StandsFor links_of new (chain_of fresh) (keys ++ key ∷ [])) → Relinks with_links (key ∷ option_to_list (chain_of row).last) old new → IsDistinct (keys_of messages) → IsAway (Some key) (keys_of messages) → owner value ≡ port → Stands (with_value ports port fresh) new (messages ++ (key, value) ∷ [])
      push_stand value chain links distinct away is q other found =
          let keys = keys_by owner port messages in
          let mine : StandsFor links_of old (chain_of row) keys = stand port row there in
          elim (written ports port q fresh other found) [
            | inl here ↦
                let now : keys_by owner q (messages ++ (key, value) ∷ []) ≡ keys ++ key ∷ [] = ap (λ p. keys_by owner p (messages ++ (key, value) ∷ [])) here.0 ∙ push_on owner port messages (key, value) is in
                rw (here.1, now) (chain keys mine (away_by owner (Some key) port messages away))
            | inr there ↦
                let theirs = keys_by owner q messages in
                let off : EachAway keys theirs = disjoint owner port q (λ e. there.0 (sym e)) messages distinct in
                let ends : EachAway theirs (option_to_list (chain_of row).last) = subst (λ (o : Option Key). EachAway theirs (option_to_list o)) (sym mine.last) (ends_last keys theirs off) in
                let touched : EachAway theirs (key ∷ option_to_list (chain_of row).last) = each_cons theirs key _ (away_by owner (Some key) q messages away) ends in
                rw (push_off owner q messages (key, value) (λ e. there.0 (sym e ∙ is)))
                (stands_apart links_of with_links _ old new (chain_of other) theirs touched links (stand q other there.1))
          ]

      -- a message leaves its port's chain
      pub unlink_stand : ((front back : List Key) → StandsFor links_of old (chain_of row) (front ++ key ∷ back) → StandsFor links_of new (chain_of fresh) (front ++ back)) → ((front back : List Key) → StandsFor links_of old (chain_of row) (front ++ key ∷ back) → Relinks with_links (option_to_list (last_or None front) ++ option_to_list (first_or None back)) old new) → IsPlaced owner key port messages → Stands (with_value ports port fresh) new (without (at_key key) messages)
      unlink_stand chain links placed q other found =
          let split = split_by owner key port messages placed.stands in
          let mine : StandsFor links_of old (chain_of row) (split.0 ++ key ∷ split.1) = subst (λ (ks : List Key). StandsFor links_of old (chain_of row) ks) split.2 (stand port row there) in
          elim (written ports port q fresh other found) [
            | inl here ↦
                let now : keys_by owner q (without (at_key key) messages) ≡ split.0 ++ split.1 = ap (λ p. keys_by owner p (without (at_key key) messages)) here.0 ∙ gone_on owner key port messages split.0 split.1 placed.distinct split.2 in
                rw (here.1, now) (chain split.0 split.1 mine)
            | inr there ↦
                let theirs = keys_by owner q messages in
                let differ : port ≢ q = λ e. there.0 (sym e) in
                let off : EachAway (split.0 ++ key ∷ split.1) theirs = subst (λ (ks : List Key). EachAway ks theirs) split.2 (disjoint owner port q differ messages placed.distinct) in
                rw (gone_off owner key port q messages split.0 split.1 placed.distinct split.2 differ)
                (stands_apart links_of with_links _ old new (chain_of other) theirs (ends_next split.0 key split.1 theirs off) (links split.0 split.1 mine) (stand q other there.1))
          ]

    -- links of other chains change
    pub across_stand : (row fresh : PortRow) (to : Block → Links → Block) (touched : List Key) → at ports port ≡ Some row → chain_of fresh ≡ chain_of row → ((value : Block) (links : Links) → links_of (to value links) ≡ links_of value) → Relinks to touched old new → Stands (with_value ports port fresh) new messages
    across_stand row fresh to touched there same keeps links q other found =
        elim (written ports port q fresh other found) [
          | inl here ↦
              let was : StandsFor links_of old (chain_of row) (keys_by owner q messages) = stand q row (ap (at ports) here.0 ∙ there) in
              rw (here.1, same) (stands_across links_of to touched old new (chain_of row) (keys_by owner q messages) keeps links was)
          | inr there ↦ stands_across links_of to touched old new (chain_of other) (keys_by owner q messages) keeps links (stand q other there.1)
        ]

    -- where the port has no row
    pub push_none : (value : QueuedMessage) → at ports port ≡ None → owner value ≡ port → Stands ports old (messages ++ (key, value) ∷ [])
    push_none value none is q row found =
        let differs : port ≢ q = λ e. let clash : None ≡ Some row = sym none ∙ ap (at ports) e ∙ found in cc in
        rw (push_off owner q messages (key, value) (λ e. differs (sym is ∙ e))) (stand q row found)

    pub unlink_none : at ports port ≡ None → IsPlaced owner key port messages → Stands ports old (without (at_key key) messages)
    unlink_none none placed q row found =
        let split = split_by owner key port messages placed.stands in
        let differs : port ≢ q = λ e. let clash : None ≡ Some row = sym none ∙ ap (at ports) e ∙ found in cc in
        rw (gone_off owner key port q messages split.0 split.1 placed.distinct split.2 differs) (stand q row found)

    -- another row of the blocks is made or goes
    pub beside_stand : ((q : Key) → q ≢ key → at new q ≡ at old q) → IsAway (Some key) (keys_of messages) → Stands ports new messages
    beside_stand same away q row found = stands_beside links_of old new (chain_of row) key (keys_by owner q messages) same (away_by owner (Some key) q messages away) (stand q row found)

  -- what `unlink` asks for
  pub split_stand : (ports : Table PortRow) (blocks : Table Block) (port key : Key) (row : PortRow) (messages : List (Key × QueuedMessage)) → at ports port ≡ Some row → Stands ports blocks messages → IsPlaced owner key port messages → (front : List Key) × (back : List Key) × StandsFor links_of blocks (chain_of row) (front ++ key ∷ back)
  split_stand ports blocks port key row messages there stand placed =
      let split = split_by owner key port messages placed.stands in
      (split.0, split.1, subst (λ (ks : List Key). StandsFor links_of blocks (chain_of row) ks) split.2 (stand port row there))

-- nothing but links and chains
pub changes_links : (ports : Table PortRow) (port : Key) (row fresh : PortRow) (with_links : Block → Links → Block) (touched : List Key) (old new : Table Block) → at ports port ≡ Some row → port_of fresh ≡ port_of row → fresh.paired ≡ row.paired → fresh.connected ≡ row.connected → ((value : Block) (links : Links) → queued_of (with_links value links) ≡ queued_of value) → Relinks with_links touched old new → ChangesLinks ports (with_value ports port fresh) old new
changes_links ports port row fresh with_links touched old new there same paired connected keeps relinks = record {
  ports = λ q. elim (key_cases q port) [
    | inl here ↦
        ap (λ k. option_map port_of (at (with_value ports port fresh) k)) here ∙ ap (option_map port_of) (at_same ports port fresh)
        ∙ ap Some same ∙ sym (ap (option_map port_of) there) ∙ sym (ap (λ k. option_map port_of (at ports k)) here)
    | inr differs ↦ ap (option_map port_of) (at_other ports port fresh q (λ e. differs (let k : port ≡ q = cc in sym k)))
  ];
  blocks = λ q. by (at old q) (at new q) (relinks.values q);
  paired = number_same (λ r. r.paired) ports port row fresh there paired;
  connected = number_same (λ r. r.connected) ports port row fresh there connected;
  port_spare = refl;
  port_made = refl;
  block_spare = relinks.spare;
  block_made = relinks.made;
}
  where
    by : (o n : Option Block) → IsRelinked with_links o n → option_map queued_of n ≡ option_map queued_of o
    by o n (inl e) = ap (option_map queued_of) e
    by o n (inr p) = ap (option_map queued_of) p.3 ∙ ap Some (keeps p.0 p.1) ∙ sym (ap (option_map queued_of) p.2)

pub same_links : (ports : Table PortRow) (blocks : Table Block) → ChangesLinks ports ports blocks blocks
same_links ports blocks = record { ports = λ _. refl; blocks = λ _. refl; paired = λ _. refl; connected = λ _. refl; port_spare = refl; port_made = refl; block_spare = refl; block_made = refl }
