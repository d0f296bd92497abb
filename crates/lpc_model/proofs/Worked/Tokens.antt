-- The worked scripts of access lists, tokens and impersonation have their transcripts.
use Rattle.std.specs.Prelude.{refl}
use Rattle.std.specs.Fmt.{digits}
use Rattle.hex.specs.Hex.{decode_pairs, encode_with}
use Rattle.lpc_base.specs.Places.{handle_from}
use Rattle.lpc_model.specs.Script.{script_lines}
use Rattle.lpc_model.specs.Words.{split_once, decimal_word, digits_word, hex_word, hexadecimal_word, id_word, info_word, message_word, number_word, reply_message, three_parts, words}
use Rattle.lpc_model.specs.Grammar.{accept_word, call_line, call_named, call_words, directive_line, directive_named, directive_words, four_words, one_or_two_words, one_word, read_line, two_words, view_numbers, view_word, qos_word, two_or_three_words, dacl_word, each_word, entries_word, entry_form, entry_kind, entry_of, level_word, no_words, quality_parts, sid_word, token_word, tracking_word, two_and_more_words, two_parts}
use Rattle.lpc_model.specs.Run.{first_fault, said_from, trace, world_behind}
use Rattle.lpc_model.specs.Transcript.{body_from, transcript}
use Rattle.lpc_model.specs.Sweep.{sweep}
use Rattle.lpc_model.specs.Text.{entries_text, entry_text}
use Rattle.lpc_model.specs.Machine.{boot_line, dir_line, bare_steps, own_steps, link_line, thread_line, token_line}
use Rattle.lpc_model.specs.Connect.{nt_create_port, nt_connect_port, nt_listen_port, nt_accept_connect_port, nt_complete_connect_port}
use Rattle.lpc_model.specs.Request.{nt_reply_port, nt_reply_wait_receive_port, nt_request_port, nt_request_wait_reply_port}
use Rattle.lpc_model.specs.Message.{bytes_of, message_test}
use Rattle.lpc_model.specs.Close.{close_port, nt_close}
use Rattle.lpc_model.specs.Counts.{nt_duplicate_object, nt_query_object}
use Rattle.lpc_model.specs.Register.{nt_register_thread_terminate_port}
use Rattle.lpc_model.specs.Creation.{nt_create_process, nt_create_thread}
use Rattle.lpc_model.specs.Death.{end_threads, nt_terminate_process, nt_terminate_thread}
use Rattle.lpc_model.specs.Memory.{nt_create_section, nt_map_view_of_section, nt_read_virtual_memory, nt_unmap_view_of_section, nt_write_virtual_memory}
use Rattle.lpc_base.specs.Views.{bases_from}
use Rattle.lpc_model.specs.Settle.{settle}
use Rattle.lpc_model.specs.WorkedTokens.{WorkedTokens}
use Rattle.lpc_names.specs.Walk.{walk, walk_by}
use Rattle.lpc_model.specs.Impersonation.{nt_impersonate_client_of_port, nt_open_process_token, nt_open_thread_token, nt_query_information_token, nt_set_information_thread}
use Rattle.lpc_sid.specs.Spelling.{sid_of, spelling}

pub worked_tokens : WorkedTokens
unfolding dacl_word each_word entries_word entry_form entry_kind entry_of level_word no_words quality_parts sid_word token_word tracking_word two_and_more_words two_parts nt_impersonate_client_of_port nt_open_process_token nt_open_thread_token nt_query_information_token nt_set_information_thread token_line sid_of spelling two_or_three_words qos_word sweep script_lines words digits_word decimal_word hexadecimal_word number_word id_word hex_word split_once three_parts reply_message message_word call_named directive_named one_word one_or_two_words two_words view_numbers view_word call_words directive_words call_line directive_line read_line first_fault said_from trace world_behind body_from transcript entry_text entries_text boot_line thread_line own_steps bare_steps settle nt_create_port nt_request_port nt_request_wait_reply_port nt_reply_port nt_reply_wait_receive_port bytes_of message_test handle_from digits decode_pairs encode_with nt_connect_port nt_listen_port nt_accept_connect_port nt_complete_connect_port dir_line link_line info_word accept_word four_words walk walk_by close_port nt_close nt_duplicate_object nt_query_object nt_register_thread_terminate_port end_threads nt_terminate_process nt_terminate_thread nt_create_process nt_create_thread nt_create_section nt_map_view_of_section nt_read_virtual_memory nt_unmap_view_of_section nt_write_virtual_memory bases_from
worked_tokens = record {
  tokens_are_tracked = refl;
  access_lists = refl;
  a_level_that_does_not_act = refl;
  a_level_that_tells_nothing = refl;
  names_of_tokens = refl;
  the_default_token = refl;
  refusals_of_impersonations = refl;
  a_server_that_acts_for_its_client = refl;
  sid_that_is_too_short = refl;
  token_without_a_user = refl;
  token_with_seventeen_groups = refl;
  name_of_a_token_with_another_byte = refl;
  name_that_boot_finds_in_no_form = refl;
  level_behind_the_form_of_a_quality = refl;
  level_above_three = refl;
  quality_of_three_parts = refl;
  mask_behind_the_forms_of_all_entries = refl;
  mask_that_is_no_number = refl;
  sid_in_an_access_list = refl;
  seventeen_entries = refl;
  word_that_is_not_null = refl;
  class_before_null = refl;
  words_where_none_stand = refl;
}
