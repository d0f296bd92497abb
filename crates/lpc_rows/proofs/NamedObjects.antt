-- What a handle of the tables names, as the definitions' handle does: the port at a key, a thread or a process, or neither.
use Rattle.std.proofs.Common.{◌≡◌, ℕ, Bool, true, false, Option, Some, None, refl, subst, sym}
use Rattle.std.specs.Prelude.{IfSome, option_and_then}
use Rattle.lpc_base.specs.declared.birth.Birth.{Birth}
use Rattle.lpc_base.specs.Rows.{passes}
use Rattle.lpc_handles.specs.declared.table.Row.{Row}
use Rattle.lpc_homes.specs.Parts.{port_of}
use Rattle.lpc_homes.specs.declared.object.Object.{Object}
use Rattle.lpc_homes.specs.declared.object.Object.TheVariants as object
use Rattle.lpc_model.specs.Found.{port_name, process_name, same_birth, same_object, thread_name}
use Rattle.lpc_model.specs.Tests.{handle_row}
use Rattle.lpc_model.specs.World.{HandleRow}
use Rattle.lpc_slots.specs.declared.Key.{Key}
use Rattle.lpc_rows.specs.Clauses.{Finds}
use Rattle.lpc_rows.specs.Names.{name_of, some_stands, stands}
use Rattle.lpc_rows.specs.Shown.{Births, birth_of, name_by, object_stands}
use Rattle.lpc_rows.specs.Suspects.{NamesLives, NamesPort, is_process_of, is_thread_of}

module _ (n : Births) (value : ℕ) where
  abbrev shown : Row Object → HandleRow
  shown row = handle_row value (name_by (birth_of n) row.object) row.access

  pub port-named : (r : Option (Row Object)) (h : Option HandleRow) → Finds r shown h → NamesPort n.ports h (option_and_then (λ row. port_of row.object) r)
  port-named None h is = subst (λ (o : Option HandleRow). NamesPort n.ports o None) (sym is) (λ b off. refl)
  port-named (Some row) h is = subst (λ (o : Option HandleRow). NamesPort n.ports o (port_of row.object)) (sym is) (λ b off. other row.object b off)
    where
      other : (o : Object) (b : Birth) → passes (port_of o) (λ key. same_birth (name_of n.ports key) b) ≡ false → same_object (name_by (birth_of n) o) (port_name b) ≡ false
      other (object.Port key) b off = off
      other (object.Process birth) b off = refl
      other (object.Thread birth) b off = refl
      other (object.Section key) b off = refl
      other (object.Token key) b off = refl

  pub port-stands : (r : Option (Row Object)) → IfSome r (λ row. object_stands n row.object ≡ true) → some_stands n.ports (option_and_then (λ row. port_of row.object) r) ≡ true
  port-stands None there = refl
  port-stands (Some row) there = at row.object there
    where
      at : (o : Object) → object_stands n o ≡ true → some_stands n.ports (port_of o) ≡ true
      at (object.Port key) there = there
      at (object.Process birth) there = refl
      at (object.Thread birth) there = refl
      at (object.Section key) there = refl
      at (object.Token key) there = refl

  pub lives-named : (r : Option (Row Object)) (h : Option HandleRow) → Finds r shown h → NamesLives r h
  lives-named None h is = subst (λ (o : Option HandleRow). NamesLives None o) (sym is) (record { thread = λ b off. refl; process = λ b off. refl })
  lives-named (Some row) h is = subst (λ (o : Option HandleRow). NamesLives (Some row) o) (sym is) (record { thread = λ b off. no-thread row.object b off; process = λ b off. no-process row.object b off })
    where
      no-thread : (o : Object) (b : Birth) → is_thread_of b o ≡ false → same_object (name_by (birth_of n) o) (thread_name b) ≡ false
      no-thread (object.Port key) b off = refl
      no-thread (object.Process birth) b off = refl
      no-thread (object.Thread birth) b off = off
      no-thread (object.Section key) b off = refl
      no-thread (object.Token key) b off = refl

      no-process : (o : Object) (b : Birth) → is_process_of b o ≡ false → same_object (name_by (birth_of n) o) (process_name b) ≡ false
      no-process (object.Port key) b off = refl
      no-process (object.Process birth) b off = off
      no-process (object.Thread birth) b off = refl
      no-process (object.Section key) b off = refl
      no-process (object.Token key) b off = refl
