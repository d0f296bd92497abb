-- The numbers behind the names.
use Rattle.std.specs.Prelude.{◌≡◌}
use Rattle.lpc_subsys.specs.declared.profile.TheConstants.{ATOM_LIMIT, CONSOLE_LIMIT, FIRST_ATOM, FIRST_LEVEL, LEVEL_LIMIT, READ_LIMIT, TEXT_LIMIT, WRITE_LIMIT}

-- the limits of a client, and where atoms and levels begin
pub record ServerProfile : Type 0 where
  pub bytes_of_a_text : TEXT_LIMIT ≡ 64
  pub texts_of_a_client : ATOM_LIMIT ≡ 64
  pub the_first_atom : FIRST_ATOM ≡ 0xC000
  pub bytes_written_by_a_message : WRITE_LIMIT ≡ 228
  pub bytes_of_a_console : CONSOLE_LIMIT ≡ 16_384
  pub bytes_read_at_once : READ_LIMIT ≡ 200
  pub the_highest_level : LEVEL_LIMIT ≡ 1279
  pub the_first_level : FIRST_LEVEL ≡ 640
