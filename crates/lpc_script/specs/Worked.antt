-- Lines that were worked by hand, beside what they say or their first fault.
use Rattle.std.specs.Prelude.{◌≡◌, ◌<◌, ℕ, true, false, List, length, [], ◌∷◌, ◌++◌, codes, Some, None, Ok, Err}
use Rattle.lpc_base.specs.declared.limits.TheConstants.{LINE_LIMIT}
use Rattle.lpc_sid.specs.WellKnown.{sid}
use Rattle.lpc_tokens.specs.declared.qos.Qos.{Qos}
use Rattle.lpc_tokens.specs.declared.qos.Tracking.TheVariants.{Dynamic, Static}
use Rattle.lpc_model.specs.declared.fault.LineFault.TheVariants as fault
use Rattle.lpc_model.specs.declared.line.ProcArg.TheVariants.{By, Current}
use Rattle.lpc_model.specs.Lines.{boot, thread, token, dir, link, run, create_port, connect_port, listen_port, accept_connect_port, complete_connect_port, request_port, request_wait_reply_port, reply_port, reply_wait_receive_port, create_section, map_view_of_section, unmap_view_of_section, read_virtual_memory, write_virtual_memory, read_request_data, write_request_data, impersonate_client_of_port, set_information_thread, open_thread_token, open_process_token, query_information_token, set_information_process, raise}
use Rattle.lpc_model.specs.Grammar.{read_line}

-- the quality of service of a connect that asks for none
abbrev pub usual : Qos
usual = record { level = 2; tracking = Dynamic }

pub record WorkedLines : Type 0 where
  -- a line of each form
  pub boot_of_a_process : read_line (codes "boot 20 24") ≡ Ok (Some (boot 20 24 None))
  pub thread_in_hexadecimal : read_line (codes "  thread   0x1C 0x0014 ") ≡ Ok (Some (thread 28 20))
  pub directory : read_line (codes "dir \\Windows") ≡ Ok (Some (dir (codes "\\Windows")))
  pub directory_of_any_word : read_line (codes "dir x") ≡ Ok (Some (dir (codes "x")))
  pub link_to_a_path : read_line (codes "link \\L  -") ≡ Ok (Some (link (codes "\\L") (codes "-")))
  pub unnamed_port : read_line (codes "24 NtCreatePort -") ≡ Ok (Some (run 24 (create_port None None)))
  pub named_port : read_line (codes "24 NtCreatePort \\Windows\\ApiPort") ≡ Ok (Some (run 24 (create_port (Some (codes "\\Windows\\ApiPort")) None)))
  pub port_of_any_name : read_line (codes "24 NtCreatePort --") ≡ Ok (Some (run 24 (create_port (Some (codes "--")) None)))
  pub connect : read_line (codes "36 NtConnectPort \\Windows\\ApiPort - - -") ≡ Ok (Some (run 36 (connect_port (codes "\\Windows\\ApiPort") usual None [])))
  pub connect_to_a_directory : read_line (codes "24 NtConnectPort \\Windows - - -") ≡ Ok (Some (run 24 (connect_port (codes "\\Windows") usual None [])))
  pub connect_with_info : read_line (codes "36 NtConnectPort \\Windows\\ApiPort - - d:4869") ≡ Ok (Some (run 36 (connect_port (codes "\\Windows\\ApiPort") usual None (72 ∷ 105 ∷ []))))
  pub connect_with_no_bytes : read_line (codes "24 NtConnectPort - - - d:") ≡ Ok (Some (run 24 (connect_port (codes "-") usual None [])))
  pub connect_with_a_view : read_line (codes "36 NtConnectPort \\P - w:8:0x1000:0 -")
      ≡ Ok (Some (run 36 (connect_port (codes "\\P") usual (Some (record { handle = 8; offset = 4096; size = 0 })) [])))
  pub listen : read_line (codes "24 NtListenPort 4") ≡ Ok (Some (run 24 (listen_port 4)))
  pub accept : read_line (codes "24 NtAcceptConnectPort 7 r:32.36.1: accept -")
      ≡ Ok (Some (run 24 (accept_connect_port 7
      (0 ∷ 0 ∷ 24 ∷ 0 ∷ 0 ∷ 0 ∷ 0 ∷ 0 ∷ 32 ∷ 0 ∷ 0 ∷ 0 ∷ 36 ∷ 0 ∷ 0 ∷ 0 ∷ 1 ∷ 0 ∷ 0 ∷ 0 ∷ 0 ∷ 0 ∷ 0 ∷ 0 ∷ []) true None)))
  pub accept_of_another_client : read_line (codes "24 NtAcceptConnectPort 9 r:40.44.1: accept -")
      ≡ Ok (Some (run 24 (accept_connect_port 9
      (0 ∷ 0 ∷ 24 ∷ 0 ∷ 0 ∷ 0 ∷ 0 ∷ 0 ∷ 40 ∷ 0 ∷ 0 ∷ 0 ∷ 44 ∷ 0 ∷ 0 ∷ 0 ∷ 1 ∷ 0 ∷ 0 ∷ 0 ∷ 0 ∷ 0 ∷ 0 ∷ 0 ∷ []) true None)))
  pub refusal : read_line (codes "24 NtAcceptConnectPort 0 m:4e6f refuse -") ≡ Ok (Some (run 24 (accept_connect_port 0 (78 ∷ 111 ∷ []) false None)))
  pub refusal_with_a_view : read_line (codes "24 NtAcceptConnectPort 0 m:4e6f refuse w:4:0:65536")
      ≡ Ok (Some (run 24 (accept_connect_port 0 (78 ∷ 111 ∷ []) false (Some (record { handle = 4; offset = 0; size = 65536 })))))
  pub complete : read_line (codes "24 NtCompleteConnectPort 8") ≡ Ok (Some (run 24 (complete_connect_port 8)))
  pub complete_in_hexadecimal : read_line (codes "24 NtCompleteConnectPort 0x8") ≡ Ok (Some (run 24 (complete_connect_port 8)))
  pub receive : read_line (codes "28 NtReplyWaitReceivePort 4294967295") ≡ Ok (Some (run 28 (reply_wait_receive_port 4294967295 None)))
  pub receive_with_a_reply : read_line (codes "28 NtReplyWaitReceivePort 4 m:4142") ≡ Ok (Some (run 28 (reply_wait_receive_port 4 (Some (65 ∷ 66 ∷ [])))))
  pub datagram : read_line (codes "24 NtRequestPort 4 m:41") ≡ Ok (Some (run 24 (request_port 4 (65 ∷ []))))
  pub raw_message : read_line (codes "24 NtReplyPort 4 m:41aAFf") ≡ Ok (Some (run 24 (reply_port 4 (65 ∷ 170 ∷ 255 ∷ []))))
  pub data_message : read_line (codes "24 NtRequestWaitReplyPort 4 d:4142")
      ≡ Ok (Some (run 24 (request_wait_reply_port 4
      (2 ∷ 0 ∷ 26 ∷ 0 ∷ 0 ∷ 0 ∷ 0 ∷ 0 ∷ 0 ∷ 0 ∷ 0 ∷ 0 ∷ 0 ∷ 0 ∷ 0 ∷ 0 ∷ 0 ∷ 0 ∷ 0 ∷ 0 ∷ 0 ∷ 0 ∷ 0 ∷ 0 ∷ 65 ∷ 66 ∷ []))))
  pub reply_message : read_line (codes "28 NtReplyPort 4 r:20.0x18.1:43")
      ≡ Ok (Some (run 28 (reply_port 4
      (1 ∷ 0 ∷ 25 ∷ 0 ∷ 0 ∷ 0 ∷ 0 ∷ 0 ∷ 20 ∷ 0 ∷ 0 ∷ 0 ∷ 24 ∷ 0 ∷ 0 ∷ 0 ∷ 1 ∷ 0 ∷ 0 ∷ 0 ∷ 0 ∷ 0 ∷ 0 ∷ 0 ∷ 67 ∷ []))))
  pub section_to_be_written : read_line (codes "24 NtCreateSection 65536 4") ≡ Ok (Some (run 24 (create_section 65536 4)))
  pub view_up_to_the_end : read_line (codes "24 NtMapViewOfSection 4 61440 0 2") ≡ Ok (Some (run 24 (map_view_of_section 4 61440 0 2)))
  pub end_of_a_view : read_line (codes "24 NtUnmapViewOfSection 0x30000") ≡ Ok (Some (run 24 (unmap_view_of_section 196608)))
  pub bytes_to_read : read_line (codes "24 NtReadVirtualMemory 0x20000 3") ≡ Ok (Some (run 24 (read_virtual_memory 131072 3)))
  pub bytes_to_write : read_line (codes "24 NtWriteVirtualMemory 65536 4142fF") ≡ Ok (Some (run 24 (write_virtual_memory 65536 (65 ∷ 66 ∷ 255 ∷ []))))
  pub range_to_read : read_line (codes "24 NtReadRequestData 8 m:4142 0x0 16") ≡ Ok (Some (run 24 (read_request_data 8 (65 ∷ 66 ∷ []) 0 16)))
  pub range_to_write : read_line (codes "24 NtWriteRequestData 8 r:32.36.2: 1 4142fF")
      ≡ Ok (Some (run 24 (write_request_data 8
      (0 ∷ 0 ∷ 24 ∷ 0 ∷ 0 ∷ 0 ∷ 0 ∷ 0 ∷ 32 ∷ 0 ∷ 0 ∷ 0 ∷ 36 ∷ 0 ∷ 0 ∷ 0 ∷ 2 ∷ 0 ∷ 0 ∷ 0 ∷ 0 ∷ 0 ∷ 0 ∷ 0 ∷ []) 1 (65 ∷ 66 ∷ 255 ∷ []))))
  pub boot_with_a_token : read_line (codes "boot 20 24 Admin_1") ≡ Ok (Some (boot 20 24 (Some (codes "Admin_1"))))
  pub token_without_groups : read_line (codes "token A S-1-5-18")
      ≡ Ok (Some (token (codes "A") (record { user = sid 5 (18 ∷ []); groups = record { items = [] } })))
  pub token_with_groups : read_line (codes "token _2 S-1-5-21-7-1001 S-1-1-0 S-1-5-32-544")
      ≡ Ok (Some (token (codes "_2")
      (record { user = sid 5 (21 ∷ 7 ∷ 1001 ∷ []); groups = record { items = sid 1 (0 ∷ []) ∷ sid 5 (32 ∷ 544 ∷ []) ∷ [] } })))
  pub port_for_nobody : read_line (codes "24 NtCreatePort \\P acl:")
      ≡ Ok (Some (run 24 (create_port (Some (codes "\\P")) (Some (record { list = record { items = [] } })))))
  pub port_for_all_but_one : read_line (codes "24 NtCreatePort \\P acl:D/1/S-1-5-7,A/0xF/S-1-1-0")
      ≡ Ok (Some (run 24 (create_port (Some (codes "\\P")) (Some (record {
        list = record {
          items =
              (record { allow = false; mask = 1; sid = sid 5 (7 ∷ []) })
              ∷ (record { allow = true; mask = 15; sid = sid 1 (0 ∷ []) })
              ∷ [];
        };
      })))))
  pub connect_with_a_quality : read_line (codes "36 NtConnectPort \\P q:0x1:s - -")
      ≡ Ok (Some (run 36 (connect_port (codes "\\P") (record { level = 1; tracking = Static }) None [])))
  pub impersonation : read_line (codes "24 NtImpersonateClientOfPort 8 m:4142") ≡ Ok (Some (run 24 (impersonate_client_of_port 8 (65 ∷ 66 ∷ []))))
  pub end_of_an_impersonation : read_line (codes "24 NtSetInformationThread 5 null") ≡ Ok (Some (run 24 (set_information_thread 5)))
  pub token_of_a_thread : read_line (codes "24 NtOpenThreadToken") ≡ Ok (Some (run 24 open_thread_token))
  pub token_of_a_process : read_line (codes "24 NtOpenProcessToken ") ≡ Ok (Some (run 24 open_process_token))
  pub class_of_a_token : read_line (codes "24 NtQueryInformationToken 4 0x9") ≡ Ok (Some (run 24 (query_information_token 4 9)))
  pub debug_port_of_a_process : read_line (codes "24 NtSetInformationProcess 8 0x7 4") ≡ Ok (Some (run 24 (set_information_process (By 8) 7 4)))
  pub exception_port_of_ones_own : read_line (codes "24 NtSetInformationProcess self 8 4") ≡ Ok (Some (run 24 (set_information_process Current 8 4)))
  pub exception_that_frames_handle : read_line (codes "36 raise 0 handled") ≡ Ok (Some (run 36 (raise 0 true)))
  pub exception_that_they_do_not : read_line (codes "36 raise 0xC0000005 unhandled") ≡ Ok (Some (run 36 (raise 3221225477 false)))
  -- lines that say nothing
  pub comment : read_line (codes "# reboot 1 2") ≡ Ok None
  pub comment_with_a_bad_byte : read_line (35 ∷ 200 ∷ []) ≡ Ok None
  pub blank_line : read_line (codes "   ") ≡ Ok None
  -- the first fault of each kind
  pub tabulator_is_no_space : read_line (codes "24" ++ 9 ∷ codes "NtReplyPort") ≡ Err fault.Byte
  pub blanks_and_a_bad_byte : read_line (32 ∷ 127 ∷ []) ≡ Err fault.Byte
  pub no_directive : read_line (codes "reboot 1 2") ≡ Err fault.Word
  pub raise_of_no_thread : read_line (codes "raise 0 handled") ≡ Err fault.Word
  pub no_call : read_line (codes "24 NtFoo") ≡ Err fault.Call
  pub raise_in_capitals : read_line (codes "36 RAISE 0 handled") ≡ Err fault.Call
  pub directory_without_a_path : read_line (codes "dir") ≡ Err fault.Count
  pub directory_of_two_paths : read_line (codes "dir \\A \\B") ≡ Err fault.Count
  pub link_to_nothing : read_line (codes "link \\A") ≡ Err fault.Count
  pub port_of_three_words : read_line (codes "24 NtCreatePort - - -") ≡ Err fault.Count
  pub too_few_words : read_line (codes "24 NtReplyPort") ≡ Err fault.Count
  pub receive_of_no_handle : read_line (codes "24 NtReplyWaitReceivePort") ≡ Err fault.Count
  pub receive_with_two_replies : read_line (codes "24 NtReplyWaitReceivePort 4 d: d:") ≡ Err fault.Count
  pub connect_of_three_words : read_line (codes "36 NtConnectPort \\P - -") ≡ Err fault.Count
  pub connect_of_five_words : read_line (codes "36 NtConnectPort \\P - - - -") ≡ Err fault.Count
  pub listen_of_no_handle : read_line (codes "24 NtListenPort") ≡ Err fault.Count
  pub accept_without_a_view : read_line (codes "24 NtAcceptConnectPort 07 x accept") ≡ Err fault.Count
  pub complete_of_two_handles : read_line (codes "24 NtCompleteConnectPort 4 8") ≡ Err fault.Count
  pub section_without_a_protection : read_line (codes "24 NtCreateSection 65536") ≡ Err fault.Count
  pub view_of_three_numbers : read_line (codes "24 NtMapViewOfSection 4 0 0") ≡ Err fault.Count
  pub end_of_no_view : read_line (codes "24 NtUnmapViewOfSection") ≡ Err fault.Count
  pub read_without_a_length : read_line (codes "24 NtReadVirtualMemory 0x20000") ≡ Err fault.Count
  pub write_without_bytes : read_line (codes "24 NtWriteVirtualMemory 65536 ") ≡ Err fault.Count
  pub range_without_a_length : read_line (codes "24 NtReadRequestData 8 d: 0") ≡ Err fault.Count
  pub quality_of_another_form : read_line (codes "36 NtConnectPort \\P Q:2:d - -") ≡ Err fault.Word
  pub quality_of_one_part : read_line (codes "36 NtConnectPort \\P q:2 - -") ≡ Err fault.Word
  pub quality_of_three_parts : read_line (codes "36 NtConnectPort \\P q:2:d: - -") ≡ Err fault.Word
  pub tracking_before_the_level : read_line (codes "36 NtConnectPort \\P q:9:x - -") ≡ Err fault.Word
  pub list_of_another_form : read_line (codes "24 NtCreatePort \\P -") ≡ Err fault.Word
  pub entry_of_no_kind : read_line (codes "24 NtCreatePort \\P acl:a/1/S-1-1-0") ≡ Err fault.Word
  pub entry_of_two_parts : read_line (codes "24 NtCreatePort \\P acl:A/S-1-1-0") ≡ Err fault.Word
  pub entry_behind_the_last : read_line (codes "24 NtCreatePort \\P acl:A/1/S-1-1-0,") ≡ Err fault.Word
  pub form_of_an_entry_before_a_mask : read_line (codes "24 NtCreatePort \\P acl:A/x/S-1-1-0,B") ≡ Err fault.Word
  pub dash_in_a_name : read_line (codes "token a-b 5") ≡ Err fault.Word
  pub name_of_33_letters : read_line (codes "boot 20 24 abcdefghijklmnopqrstuvwxyzABCDEFG") ≡ Err fault.Word
  pub no_null : read_line (codes "24 NtSetInformationThread 5 0") ≡ Err fault.Word
  pub neither_handled_nor_unhandled : read_line (codes "36 raise 0 Handled") ≡ Err fault.Word
  pub view_before_the_info : read_line (codes "36 NtConnectPort \\P - w:4:0 x") ≡ Err fault.Word
  pub neither_accept_nor_refuse : read_line (codes "24 NtAcceptConnectPort 7 d: Accept w") ≡ Err fault.Word
  pub view_of_four_numbers : read_line (codes "24 NtAcceptConnectPort 7 d: refuse w:4:0:0:0") ≡ Err fault.Word
  pub view_of_another_form : read_line (codes "24 NtAcceptConnectPort 7 d: accept W:4:0:0") ≡ Err fault.Word
  pub space_before_the_sign : read_line (codes " # boot") ≡ Err fault.Word
  pub name_before_the_count : read_line (codes "24 NtFoo 1 2 3 4") ≡ Err fault.Call
  pub count_before_the_words : read_line (codes "24 NtReplyPort 08 x: 4") ≡ Err fault.Count
  pub boot_of_four_words : read_line (codes "boot 20 24 A B") ≡ Err fault.Count
  pub token_without_a_user : read_line (codes "token A") ≡ Err fault.Count
  pub token_with_17_groups : read_line (codes "token a-b x 1 2 3 4 5 6 7 8 9 10 11 12 13 14 15 16 17") ≡ Err fault.Count
  pub opening_of_a_word : read_line (codes "24 NtOpenThreadToken 4") ≡ Err fault.Count
  pub opening_of_self : read_line (codes "24 NtOpenProcessToken self") ≡ Err fault.Count
  pub impersonation_of_no_message : read_line (codes "24 NtImpersonateClientOfPort 8") ≡ Err fault.Count
  pub token_without_a_class : read_line (codes "24 NtQueryInformationToken 4") ≡ Err fault.Count
  pub port_without_a_class : read_line (codes "24 NtSetInformationProcess self 4") ≡ Err fault.Count
  pub process_of_two_ports : read_line (codes "24 NtSetInformationProcess self 7 4 8") ≡ Err fault.Count
  pub raise_of_a_code_alone : read_line (codes "36 raise 0") ≡ Err fault.Count
  pub raise_of_three_words : read_line (codes "36 raise x y handled") ≡ Err fault.Count
  pub thread_alone : read_line (codes "24") ≡ Err fault.Count
  pub leading_zero_of_a_handle : read_line (codes "24 NtReplyPort 08 d:") ≡ Err fault.Number
  pub leading_zero_of_a_process : read_line (codes "boot 020 24") ≡ Err fault.Number
  pub thread_of_no_range : read_line (codes "2147483648 NtFoo") ≡ Err fault.Number
  pub nine_hexadecimal_digits : read_line (codes "24 NtReplyWaitReceivePort 0x000000001") ≡ Err fault.Number
  pub great_number : read_line (codes "24 NtReplyWaitReceivePort 4294967296") ≡ Err fault.Number
  pub letters_in_a_reply : read_line (codes "24 NtReplyPort 4 r:a.b.c:zz") ≡ Err fault.Number
  pub context_before_the_message : read_line (codes "24 NtAcceptConnectPort - - - -") ≡ Err fault.Number
  pub handle_of_a_listen : read_line (codes "24 NtListenPort -") ≡ Err fault.Number
  pub handle_of_a_complete : read_line (codes "24 NtCompleteConnectPort 08") ≡ Err fault.Number
  pub protection_by_a_letter : read_line (codes "24 NtCreateSection 65536 w") ≡ Err fault.Number
  pub offset_of_a_view : read_line (codes "24 NtMapViewOfSection 4 - 0 2") ≡ Err fault.Number
  pub view_without_numbers : read_line (codes "36 NtConnectPort \\P - w::: x") ≡ Err fault.Number
  pub address_before_the_bytes : read_line (codes "24 NtWriteVirtualMemory 08 4") ≡ Err fault.Number
  pub range_before_the_bytes : read_line (codes "24 NtWriteRequestData 8 d: x 4") ≡ Err fault.Number
  pub level_of_4 : read_line (codes "36 NtConnectPort \\P q:4:s - -") ≡ Err fault.Number
  pub mask_by_a_letter : read_line (codes "24 NtCreatePort \\P acl:A/x/x") ≡ Err fault.Number
  pub number_before_the_name : read_line (codes "boot 20 024 a-b") ≡ Err fault.Number
  pub class_before_the_word : read_line (codes "24 NtSetInformationThread x y") ≡ Err fault.Number
  pub class_by_a_letter : read_line (codes "24 NtQueryInformationToken 4 x") ≡ Err fault.Number
  pub process_by_another_word : read_line (codes "24 NtSetInformationProcess Self x y") ≡ Err fault.Number
  pub class_before_the_port : read_line (codes "24 NtSetInformationProcess self debug -") ≡ Err fault.Number
  pub port_of_self : read_line (codes "24 NtSetInformationProcess 8 7 self") ≡ Err fault.Number
  pub code_before_the_word : read_line (codes "36 raise c0000005 x") ≡ Err fault.Number
  pub odd_number_of_digits : read_line (codes "24 NtReplyPort 4 d:4") ≡ Err fault.Hex
  pub second_colon_of_a_reply : read_line (codes "24 NtReplyPort 4 r:1.2.3:41:42") ≡ Err fault.Hex
  pub odd_number_of_digits_of_info : read_line (codes "36 NtConnectPort \\P - - d:0") ≡ Err fault.Hex
  pub message_before_the_verdict : read_line (codes "24 NtAcceptConnectPort 7 m:0 - -") ≡ Err fault.Hex
  pub odd_number_of_digits_to_write : read_line (codes "24 NtWriteVirtualMemory 65536 414") ≡ Err fault.Hex
  pub data_of_a_message_to_write : read_line (codes "24 NtWriteVirtualMemory 65536 d:41") ≡ Err fault.Hex
  pub odd_number_of_digits_of_a_range : read_line (codes "24 NtWriteRequestData 8 d: 0 414") ≡ Err fault.Hex
  pub reply_without_a_colon : read_line (codes "24 NtReplyPort 4 r:1.2.3") ≡ Err fault.Message
  pub reply_of_two_numbers : read_line (codes "24 NtReplyPort 4 r:1.2:41") ≡ Err fault.Message
  pub reply_of_four_numbers : read_line (codes "24 NtReplyPort 4 r:1.2.3.4:41") ≡ Err fault.Message
  pub no_form_of_message : read_line (codes "24 NtReplyPort 4 x:41") ≡ Err fault.Message
  pub receive_with_no_message : read_line (codes "24 NtReplyWaitReceivePort 4 -") ≡ Err fault.Message
  pub info_of_a_whole_message : read_line (codes "36 NtConnectPort \\P - - m:41") ≡ Err fault.Message
  pub info_of_a_reply : read_line (codes "36 NtConnectPort \\P - - r:1.2.3:41") ≡ Err fault.Message
  pub accept_of_no_message : read_line (codes "24 NtAcceptConnectPort 7 - accept -") ≡ Err fault.Message
  pub message_before_the_range : read_line (codes "24 NtReadRequestData 8 - x 1") ≡ Err fault.Message
  pub leading_zero_of_a_user : read_line (codes "token A S-1-5-018") ≡ Err fault.Sid
  pub group_without_a_number : read_line (codes "token A S-1-5-18 S-1-1-0 S-1-1") ≡ Err fault.Sid
  pub entry_before_the_next : read_line (codes "24 NtCreatePort \\P acl:A/1/s-1-1-0,D/x/S-1-1-0") ≡ Err fault.Sid
  pub byte_past_the_limit : (line : List ℕ) → LINE_LIMIT < length line → read_line line ≡ Err fault.Long
