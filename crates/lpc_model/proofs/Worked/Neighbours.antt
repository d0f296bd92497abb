-- The worked scripts beside a neighbour: what the client and its server do and are told is the same.
use Rattle.std.specs.Prelude.{refl}
use Rattle.std.specs.Fmt.{digits}
use Rattle.hex.specs.Hex.{decode_pairs, encode_with}
use Rattle.lpc_base.specs.Places.{handle_from}
use Rattle.lpc_model.specs.Script.{script_lines}
use Rattle.lpc_model.specs.Words.{split_once, decimal_word, digits_word, hex_word, hexadecimal_word, id_word, info_word, message_word, number_word, reply_message, three_parts, words}
use Rattle.lpc_model.specs.Grammar.{accept_word, view_word, call_line, call_named, call_words, directive_line, directive_named, directive_words, four_words, one_or_two_words, one_word, read_line, two_words, qos_word, two_or_three_words}
use Rattle.lpc_model.specs.Run.{first_fault, said_from, trace, world_behind}
use Rattle.lpc_model.specs.Transcript.{body_from, transcript}
use Rattle.lpc_model.specs.Sweep.{sweep}
use Rattle.lpc_model.specs.Text.{entries_text, entry_text}
use Rattle.lpc_model.specs.Machine.{boot_line, dir_line, bare_steps, link_line, thread_line, own_steps}
use Rattle.lpc_model.specs.Settle.{settle}
use Rattle.lpc_model.specs.Connect.{nt_create_port, nt_connect_port, nt_listen_port, nt_accept_connect_port, nt_complete_connect_port}
use Rattle.lpc_model.specs.Request.{nt_reply_port, nt_reply_wait_receive_port, nt_request_port, nt_request_wait_reply_port}
use Rattle.lpc_model.specs.Message.{bytes_of, message_test}
use Rattle.lpc_model.specs.Close.{close_port, nt_close}
use Rattle.lpc_model.specs.Counts.{nt_duplicate_object, nt_query_object}
use Rattle.lpc_model.specs.Register.{nt_register_thread_terminate_port}
use Rattle.lpc_model.specs.Death.{end_threads, nt_terminate_process, nt_terminate_thread}
use Rattle.lpc_model.specs.WorkedNeighbours.{WorkedNeighbours}
use Rattle.lpc_names.specs.Walk.{walk, walk_by}

pub worked_neighbours : WorkedNeighbours
unfolding two_or_three_words qos_word sweep script_lines words digits_word decimal_word hexadecimal_word number_word id_word hex_word split_once three_parts reply_message message_word call_named directive_named one_word one_or_two_words two_words call_words directive_words call_line directive_line read_line first_fault said_from trace world_behind body_from transcript entry_text entries_text boot_line thread_line own_steps bare_steps settle nt_create_port nt_request_port nt_request_wait_reply_port nt_reply_port nt_reply_wait_receive_port bytes_of message_test handle_from digits decode_pairs encode_with nt_connect_port nt_listen_port nt_accept_connect_port nt_complete_connect_port dir_line link_line info_word accept_word view_word four_words walk walk_by close_port nt_close nt_duplicate_object nt_query_object nt_register_thread_terminate_port end_threads nt_terminate_process nt_terminate_thread
worked_neighbours = record {
  datagrams_beside_a_request = refl;
  inputs_beside_datagrams = refl;
  end_beside_a_request = refl;
  inputs_beside_an_end = refl;
}
