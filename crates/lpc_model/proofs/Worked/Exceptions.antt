-- The worked scripts of exceptions have their transcripts.
use Rattle.lpc_model.specs.Ranges.{nt_write_request_data}
use Rattle.lpc_model.specs.Ranges.{nt_read_request_data}
use Rattle.lpc_base.specs.Views.{bases_from}
use Rattle.lpc_model.specs.Memory.{nt_write_virtual_memory}
use Rattle.lpc_model.specs.Memory.{nt_unmap_view_of_section}
use Rattle.lpc_model.specs.Memory.{nt_read_virtual_memory}
use Rattle.lpc_model.specs.Memory.{nt_map_view_of_section}
use Rattle.lpc_model.specs.Memory.{nt_create_section}
use Rattle.lpc_model.specs.Grammar.{view_numbers}
use Rattle.std.specs.Prelude.{refl}
use Rattle.std.specs.Fmt.{digits}
use Rattle.hex.specs.Hex.{decode_pairs, encode_with}
use Rattle.lpc_base.specs.Places.{handle_from}
use Rattle.lpc_model.specs.Script.{script_lines}
use Rattle.lpc_model.specs.Words.{split_once, decimal_word, digits_word, hex_word, hexadecimal_word, id_word, info_word, message_word, number_word, reply_message, three_parts, words}
use Rattle.lpc_model.specs.Grammar.{accept_word, view_word, handled_word, three_words, no_words, qos_word, two_or_three_words, call_line, call_named, call_words, directive_line, directive_named, directive_words, four_words, one_or_two_words, one_word, read_line, two_words}
use Rattle.lpc_model.specs.Run.{first_fault, said_from, trace, world_behind}
use Rattle.lpc_model.specs.Transcript.{body_from, transcript}
use Rattle.lpc_model.specs.Sweep.{sweep}
use Rattle.lpc_model.specs.Text.{entries_text, entry_text}
use Rattle.lpc_model.specs.Machine.{boot_line, dir_line, bare_steps, own_steps, link_line, thread_line}
use Rattle.lpc_model.specs.Connect.{nt_create_port, nt_connect_port, nt_listen_port, nt_accept_connect_port, nt_complete_connect_port}
use Rattle.lpc_model.specs.Request.{nt_reply_port, nt_reply_wait_receive_port, nt_request_port, nt_request_wait_reply_port}
use Rattle.lpc_model.specs.Message.{bytes_of, message_test}
use Rattle.lpc_model.specs.Close.{close_port, nt_close}
use Rattle.lpc_model.specs.Counts.{nt_duplicate_object, nt_query_object}
use Rattle.lpc_model.specs.Register.{nt_register_thread_terminate_port}
use Rattle.lpc_model.specs.Death.{end_threads, nt_terminate_process, nt_terminate_thread}
use Rattle.lpc_model.specs.Creation.{nt_create_process, nt_create_thread}
use Rattle.lpc_model.specs.Raise.{go_on, nt_set_information_process, raise_exception}
use Rattle.lpc_model.specs.Settle.{end_doomed, settle}
use Rattle.lpc_model.specs.Impersonation.{nt_impersonate_client_of_port, nt_open_process_token, nt_open_thread_token, nt_query_information_token}
use Rattle.lpc_sid.specs.Spelling.{spelling}
use Rattle.lpc_model.specs.WorkedExceptions.{WorkedExceptions}
use Rattle.lpc_names.specs.Walk.{walk, walk_by}

pub worked_exceptions : WorkedExceptions
unfolding no_words qos_word two_or_three_words nt_impersonate_client_of_port nt_open_process_token nt_open_thread_token nt_query_information_token spelling sweep script_lines words digits_word decimal_word hexadecimal_word number_word id_word hex_word split_once three_parts reply_message message_word call_named directive_named one_word one_or_two_words two_words call_words directive_words call_line directive_line read_line first_fault said_from trace world_behind body_from transcript entry_text entries_text boot_line thread_line own_steps bare_steps settle go_on end_doomed handled_word three_words raise_exception nt_set_information_process nt_create_process nt_create_thread nt_create_port nt_request_port nt_request_wait_reply_port nt_reply_port nt_reply_wait_receive_port bytes_of message_test handle_from digits decode_pairs encode_with nt_connect_port nt_listen_port nt_accept_connect_port nt_complete_connect_port dir_line link_line info_word accept_word view_word four_words walk walk_by close_port nt_close nt_duplicate_object nt_query_object nt_register_thread_terminate_port end_threads nt_terminate_process nt_terminate_thread view_numbers nt_create_section nt_map_view_of_section nt_read_virtual_memory nt_unmap_view_of_section nt_write_virtual_memory bases_from nt_read_request_data nt_write_request_data
worked_exceptions = record {
  a_cascade = refl;
  processes_and_the_exception_port = refl;
  all_chances_pass = refl;
  two_doomed = refl;
  nothing_handles = refl;
  an_event_describes_no_bytes = refl;
  an_event_lets_no_server_act = refl;
  a_debugger_and_its_child = refl;
  a_debugger_that_ends = refl;
}
